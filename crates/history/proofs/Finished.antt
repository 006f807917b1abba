-- Finish: its view, and the references of what it leaves, which the theory's invariant gives (`agreed_references`); the audit before it does not.
use Prim.Native.Nat.{ℕ, ◌+◌, ◌-◌, ◌*◌, ◌/◌, ◌%◌, ◌<◌}
use mathlib.Core.List.{List}
use mathlib.Core.Bool.{Bool, true, false, not, cond, true≢false}
use mathlib.Core.Logic.{◌⊎◌, inl, inr, ◌≢◌}
use mathlib.Core.Path.{◌≡◌, refl, ap, sym, ◌∙◌, fun_ext}
use native.Mathlib.Omega.{arith}
use lib.ListN.{get_or, set}
use lib.Dec.{T, eqb, ltb}
use borrow.Author.Tests.{ltb-true, ltb-false, lt-ltb, ne_eqb}
use Rattle.marking.proofs.Operations.{State}
use Rattle.marking.specs.WordHeap.{heap_finish}
use Rattle.marking.proofs.Represents.{Layout, address, Live, address_nil, address_live}
use Rattle.marking.proofs.Simulation.{nil_or_live}
use Rattle.marking.specs.Ledger.{Ledger}
use Rattle.marking.proofs.Agreement.{Agrees}
use Rattle.model.specs.Bounded.{first_below}
use Rattle.model.specs.Memory.{Heap, stack_count, slot_count, global_count, first_global, first_state, globals_state_at, phase_at, page_words, sweep, closed, gray_state}
use Rattle.model.specs.Bitmaps.{allocated, marked, pointer, is}
use Rattle.model.specs.Spans.{owner, element_words, span_of, element_of, kept}
use Rattle.model.specs.Facts.{Spans, Element, Audited, Bits, References, Reference, unswept_at}
use Rattle.model.proofs.Tests.{of_true}
use Rattle.model.proofs.Spans.{span_of_lem, in_span, at_home, round}
use Rattle.model.proofs.Facts.{no_pointer}
use Rattle.model.proofs.Named.{address_refers}
use Rattle.keeps.proofs.Roots.{root_at, root_other}
use Rattle.keeps.proofs.Tables.{like_scan, like_words}
use Rattle.keeps.proofs.Finished.{unswept_table, finished, finish_at, finish_like, finish_unswept}
use Rattle.history.proofs.View.{view, phase_of, late_at, scans_at, words_at, run_from, colours_eq, heap_eq, slots_same, globals_same, states_same}

module _ {h : Heap} (F : Audited h) where
  abbrev t : List ℕ
  t = h.table

  abbrev u : List ℕ
  u = unswept_table h

  pub finish_late : (w : ℕ) → 0 < owner h.table (w / page_words) → late_at (unswept_table h) w ≡ true
  unfolding late_at
  finish_late w k = rw (finish_unswept F w k, (finish_at F (w / page_words)).0, ne_eqb (owner t (w / page_words)) 0 (omega arith))

  pub finish_view : view (finished h) ≡ heap_finish (late_at (unswept_table h)) (view h)
  unfolding view heap_finish
  finish_view = heap_eq refl refl
      (λ i. record { scan = sc i; pointers = λ w. run_from (is pointer h) w (el i w); words = el i }) refl
      (colours_eq refl refl (rw (rest globals_state_at (omega arith))) (states_same (λ x. eqb x gray_state) r h.roots (λ x b c. rest x (omega arith))))
      (slots_same r h.roots (λ x b. rest x (omega arith)))
      (globals_same r h.roots (λ x b c. rest x (omega arith)))
      (states_same (λ x. not (eqb x closed)) r h.roots (λ x b c. rest x (omega arith)))
      (ap phase_of (root_at F phase_at sweep (omega arith) phase_at))
    where
      r : List ℕ
      r = set h.roots phase_at sweep

      rest : (x : ℕ) → x ≢ phase_at → get_or r x 0 ≡ get_or h.roots x 0
      rest = root_other F phase_at sweep (omega arith)

      sc : scans_at u ≡ scans_at t
      sc = unfold scans_at in fun_ext (λ w. like_scan (finish_like F w))

      el : words_at u ≡ words_at t
      el = unfold words_at in fun_ext (λ w. like_words (finish_like F w))

-- the references, from the theory's invariant: whatever call it was
module _ (h : Heap) {L : Ledger} {S : State} {Y : Layout} (F : Spans h.pages h.table) (C : Bits h.pages h.table h.bits) (R : Agrees (view h) L S Y) where
  abbrev P : ℕ
  P = h.pages

  abbrev t' : List ℕ
  t' = h.table

  -- at an allocated word the view's flag is the table's
  late_is : (w : ℕ) → T (is allocated h w) → late_at t' w ≡ unswept_at t' w
  unfolding late_at
  late_is w a = rw (ne_eqb (owner t' (w / page_words)) 0 (omega (arith, (C.element w a).lies.used)))

  on : (x : ℕ) → Live S.allocated x → T (is allocated h (Y.at x))
  unfolding view
  on x l = R.represents.placed.on x l

  keep : (x : ℕ) → Live S.allocated x → S.kept x ≡ cond (unswept_at t' (Y.at x)) (is marked h (Y.at x)) true
  unfolding view
  keep x l = R.represents.kept x l ∙ ap (λ b. cond b (is marked h (Y.at x)) true) (late_is (Y.at x) (on x l))

  node_refers : (x : ℕ) → T (S.kept x) → Reference P t' h.bits (address Y x)
  node_refers x k = go (nil_or_live R.invariant x k)
    where
      go : ((x ≡ 0) ⊎ Live S.allocated x) → Reference P t' h.bits (address Y x)
      go (inl e) = inl (rw e (address_nil Y))
      go (inr l) = rw (address_live Y x l.0) (address_refers P t' h.bits (Y.at x) (there (unswept_at t' (Y.at x)) (rw (keep x l) at k)))
        where
          there : (b : Bool) → T (cond b (is marked h (Y.at x)) true) → T (cond b (is marked h (Y.at x)) (is allocated h (Y.at x)))
          there true m = m
          there false m = on x l

  pub agreed_references : References h
  unfolding view words_at run_from
  agreed_references = record {
    root = λ x l. root x l (ltb x first_global) refl;
    content = λ v p kp. content v p kp (R.represents.placed.only (element_of t' v) (C.pointers v p).2);
  }
    where
      root : (x : ℕ) → x < first_state → (b : Bool) → ltb x first_global ≡ b → Reference P t' h.bits (get_or h.roots x 0)
      root x l true e =
          let l' = ltb-true x first_global e in
          let z : slot_count * (x / slot_count) + x % slot_count ≡ x = omega arith in
          let s = rw (lt-ltb (x / slot_count) stack_count (omega arith), lt-ltb (x % slot_count) slot_count (omega arith), z) at (R.represents.words.slot (x / slot_count) (x % slot_count)) in
          rw s (node_refers (S.graph.slot (x / slot_count) (x % slot_count)) (R.invariant.kept_closed.root (x / slot_count) (x % slot_count)))
      root x l false e =
          let l' = ltb-false x first_global e in
          let z : first_global + (x - first_global) ≡ x = omega arith in
          let s = rw (lt-ltb (x - first_global) global_count (omega arith), z) at (R.represents.words.global (x - first_global)) in
          rw s (node_refers (S.graph.field 0 (x - first_global)) (R.invariant.kept_closed.step 0 (x - first_global) R.invariant.kept_closed.nil))

      -- a pointer word lies in the run of its element
      run_in : (v w : ℕ) → T (is pointer h v) → (f : ℕ) → Element t' w → f < element_words t' (span_of t' w) → w + f ≡ v →
          f < first_below (element_words t' (span_of t' w)) (λ k. not (is pointer h (w + k)))
      run_in v w p f E l z = go (ltb f (first_below (element_words t' (span_of t' w)) (λ k. not (is pointer h (w + k))))) refl
        where
          go : (b : Bool) → ltb f (first_below (element_words t' (span_of t' w)) (λ k. not (is pointer h (w + k)))) ≡ b →
              f < first_below (element_words t' (span_of t' w)) (λ k. not (is pointer h (w + k)))
          go true e = ltb-true f _ e
          go false e = absurd (true≢false (sym (of_true _ p) ∙ ap (is pointer h) (sym z) ∙ no_pointer F C w E f (ltb-false f _ e) l))

      kept_x : (x : ℕ) (l : Live S.allocated x) → T (kept h (Y.at x)) → T (S.kept x)
      kept_x x l k = rw (keep x l) (there (unswept_at t' (Y.at x)) k)
        where
          there : (b : Bool) → T (cond b (is marked h (Y.at x)) (is allocated h (Y.at x))) → T (cond b (is marked h (Y.at x)) true)
          there true m = m
          there false m = tt

      content : (v : ℕ) → T (is pointer h v) → T (kept h (element_of t' v)) → ((x : ℕ) × Live S.allocated x × (Y.at x ≡ element_of t' v)) →
          Reference P t' h.bits (get_or h.arena v 0)
      content v p kp r =
          let y = (C.pointers v p).0.used in
          let E = C.element (element_of t' v) (C.pointers v p).2 in
          let R₁ = round F v y in
          let hm = (at_home F (span_of t' v) (element_of t' v) (span_of_lem F v y) R₁.0 (omega (arith, in_span F v y, R₁.1))).1 in
          let z : element_of t' v + (v - element_of t' v) ≡ v = omega (arith, R₁.1) in
          let long : v - element_of t' v < element_words t' (span_of t' (element_of t' v)) = rw hm (omega (arith, R₁.1, R₁.2)) in
          let short = run_in v (element_of t' v) p (v - element_of t' v) E long z in
          let ar = rw r.2 at (R.represents.placed.pointers r.0 r.1) in
          let k = kept_x r.0 r.1 (rw (← r.2) at kp) in
          let e = rw (r.2, z) at (R.represents.words.pointer r.0 (v - element_of t' v) r.1 (rw (← ar) short)) in
          rw e (node_refers (S.graph.field r.0 (v - element_of t' v)) (R.invariant.kept_closed.step r.0 (v - element_of t' v) k))

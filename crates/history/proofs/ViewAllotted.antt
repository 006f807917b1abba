-- An allocation and the sweep of a span, seen as the theory's steps.
use Prim.Native.Nat.{ℕ, ◌+◌, ◌*◌, ◌/◌, ◌<◌, ◌≤◌}
use mathlib.Core.List.{List}
use mathlib.Core.Bool.{Bool, true, false, not, cond, ◌&&◌, and-false}
use mathlib.Core.Logic.{◌⊎◌, inl, inr}
use mathlib.Core.Path.{◌≡◌, refl, ap, fun_ext}
use native.Mathlib.Omega.{arith}
use lib.ListN.{get_or}
use lib.Dec.{T, eqb, ltb}
use borrow.Author.Tests.{lt-leb, ne_eqb}
use Rattle.marking.specs.Updates.{update}
use Rattle.marking.proofs.Updates.{update_is}
use Rattle.marking.specs.WordHeap.{Elements, Alike, heap_allocate, heap_sweep, LegalColours}
use Rattle.marking.specs.Event.{Write}
use Rattle.marking.specs.Event
use Rattle.marking.specs.Ledger.{Event}
use Rattle.marking.specs.Trace.{Step}
use Rattle.marking.specs.Trace
use Rattle.model.specs.Memory.{Heap, with_table, address_of, phase, stack_count, slot_count, first_global, first_state, globals_state_at, phase_at, page_words, unswept_flag, sweep, mark}
use Rattle.model.specs.Bitmaps.{allocated, marked, gray, pointer, is}
use Rattle.model.specs.Spans.{owner, page_count, kind_entry, is_free, element_words, element_start, span_of, element_of}
use Rattle.model.specs.Cycle.{swept_table, swept_span}
use Rattle.model.proofs.Tests.{of_true}
use Rattle.model.proofs.Bounded.{within, within_yes, within_low, within_high, first_is, first_cong}
use Rattle.model.specs.Facts.{IsSpan, Audited}
use Rattle.model.proofs.Effects.{swept_at}
use Rattle.keeps.proofs.Tables.{Chosen, like_scan, like_words}
use Rattle.keeps.proofs.Allotted.{allotted, allotted_a, allotted_m, allotted_g, allotted_p, allotted_word, here, clear, bare, ends}
use Rattle.keeps.proofs.Allocated.{Choice}
use Rattle.keeps.proofs.Swept.{late_swept, was_late, stay_like, stay_bits}
use Rattle.history.proofs.View.{view, phase_of, late_at, scans_at, words_at, run_from, elements_in, colours_eq, heap_eq, marking_is, slot_set}

pub run_cong : (p q : ℕ → Bool) (w n : ℕ) → ((k : ℕ) → k < n → p (w + k) ≡ q (w + k)) → run_from p w n ≡ run_from q w n
unfolding run_from
run_cong p q w n f = first_cong n (λ k. not (p (w + k))) (λ k. not (q (w + k))) (λ k l. ap not (f k l))

run_is : (p : ℕ → Bool) (w n r : ℕ) → r ≤ n → ((k : ℕ) → k < r → p (w + k) ≡ true) → (r < n → p (w + r) ≡ false) → run_from p w n ≡ r
unfolding run_from
run_is p w n r h f g = first_is n (λ k. not (p (w + k))) r (record { within = h; before = λ k l. ap not (f k l); holds = λ l. ap not (g l) })

-- an allocation: h₀ is the heap before, h the heap with the table that the element's span stands in
module _ {h₀ : Heap} {u : List ℕ} {w n p : ℕ} (F₀ : Audited h₀) (C : Choice h₀ u w n p) (s i : ℕ) (hs : s < stack_count) (hi : i < slot_count) where
  abbrev h : Heap
  h = with_table u h₀

  abbrev r : ℕ
  r = C.span

  abbrev k : ℕ
  k = C.number

  abbrev S : Chosen h₀.pages u h₀.bits C.span C.number p
  S = C.chosen

  abbrev after : Heap
  after = allotted s i w n p (with_table u h₀)

  start : element_start u r k ≡ w
  start = C.word

  long : element_words u r ≡ n
  long = C.words

  a_at : (v : ℕ) → is allocated after v ≡ cond (eqb v w) true (is allocated h₀ v)
  a_at v = rw start at (allotted_a {h = h} C.sized C.spans C.bits S s i hs hi v)

  m_at : (v : ℕ) → is marked after v ≡ cond (eqb (phase h₀) mark && eqb v w) true (is marked h₀ v)
  m_at v = rw start at (allotted_m {h = h} C.sized C.spans C.bits S s i hs hi v)

  g_at : (v : ℕ) → is gray after v ≡ is gray h₀ v
  g_at v = rw start at (allotted_g {h = h} C.sized C.spans C.bits S s i hs hi v)

  p_at : (v : ℕ) → is pointer after v ≡ cond (within w p v) true (is pointer h₀ v)
  p_at v = rw start at (allotted_p {h = h} C.sized C.spans C.bits S s i hs hi v)

  word_at : (v : ℕ) → get_or after.arena v 0 ≡ cond (within w n v) 0 (get_or h₀.arena v 0)
  word_at v = rw (start, long) at (allotted_word {h = h} C.sized C.spans C.bits S s i hs hi v)

  E : Elements
  E = elements_in u (is pointer after)

  rest : (x : ℕ) → first_global ≤ x → get_or after.roots x 0 ≡ get_or h₀.roots x 0
  rest x l = Rattle.keeps.proofs.Roots.root_other F₀ (slot_count * s + i) (address_of w) (omega arith) x (omega arith)

  -- the view of the result is the theory's new heap
  is_new : view after ≡ heap_allocate s i w (λ x. get_or after.arena x 0) (elements_in u (is pointer after)) (late_at u) (view h₀)
  unfolding view heap_allocate
  is_new = heap_eq refl (fun_ext (λ v. rw (a_at v, update_is (is allocated h₀) w true v))) refl refl
      (colours_eq (rw (marking_is (phase h₀)) (marks (eqb (phase h₀) mark) refl)) (fun_ext g_at) (rw (rest globals_state_at (omega arith)))
      (fun_ext (λ x. rw (rest (first_state + x) (omega arith)))))
      (slot_set h₀.roots s i (address_of w) F₀.sized.roots hs hi)
      (fun_ext (λ g. rw (rest (first_global + g) (omega arith))))
      (fun_ext (λ x. rw (rest (first_state + x) (omega arith))))
      (ap phase_of (rest phase_at (omega arith)))
    where
      marks : (b : Bool) → eqb (phase h₀) mark ≡ b → is marked after ≡ cond b (update (is marked h₀) w true) (is marked h₀)
      marks true e = fun_ext (λ v. rw (m_at v, e, update_is (is marked h₀) w true v))
      marks false e = fun_ext (λ v. rw (m_at v, e))

  some : 0 < n
  some = rw long at (ends C.spans C.bits S).0

  pointers : p ≤ n
  pointers = rw long at S.pointers

  here_w : (v : ℕ) → w ≤ v → v < w + n → (owner u (v / page_words) ≡ r + 1) × (span_of u v ≡ r) × (element_of u v ≡ w)
  here_w v x y = rw start at (here C.spans C.bits S v (rw start x) (rw (start, long) y))

  clear_w : (v : ℕ) → T (is allocated h₀ v) → (v + element_words u (span_of u v) ≤ w) ⊎ (w + n ≤ v)
  clear_w v x = rw (start, long) at (clear C.spans C.bits S v x)

  -- the elements of the result: the new one and the others
  new_map : (scans_at u w ≡ ltb 0 p) × (run_from (is pointer after) w (words_at u w) ≡ p) × (words_at u w ≡ n)
  unfolding scans_at words_at
  new_map = (rw home S.scan, rw (home, long) (run_is (is pointer after) w n p pointers on past), rw home long)
    where
      home : span_of u w ≡ r
      home = (here_w w (omega arith) (omega (arith, some))).1

      on : (f : ℕ) → f < p → is pointer after (w + f) ≡ true
      on f l = rw (p_at (w + f), within_yes w p (w + f) (omega arith) (omega arith))

      past : p < n → is pointer after (w + p) ≡ false
      past l = rw (p_at (w + p), within_high w p (w + p) (omega arith)) (bare C.spans C.bits S (w + p) (rw start (omega arith)) (rw (start, long) (omega arith)))

  old_map : (v : ℕ) → T (is allocated h₀ v) → Alike (elements_in u (is pointer after)) (elements_in h₀.table (is pointer h₀)) v
  unfolding scans_at words_at
  old_map v x = (
    C.scans v x,
    rw (← (C.long v x))
        (run_cong (is pointer after) (is pointer h₀) v (element_words u (span_of u v)) (λ f l. same f l (clear_w v x))),
    C.long v x,
  )
    where
      same : (f : ℕ) → f < element_words u (span_of u v) → ((v + element_words u (span_of u v) ≤ w) ⊎ (w + n ≤ v)) → is pointer after (v + f) ≡ is pointer h₀ (v + f)
      same f l (inl y) = rw (p_at (v + f), within_low w p (v + f) (omega arith))
      same f l (inr y) = rw (p_at (v + f), within_high w p (v + f) (omega (arith, pointers)))

  not_late : late_at u w ≡ false
  unfolding late_at
  not_late = rw ((here_w w (omega arith) (omega (arith, some))).1, lt-leb unswept_flag (kind_entry u r) S.swept) (and-false (not (is_free u (w / page_words))))

  lates : (v : ℕ) → T (is allocated h₀ v) → late_at u v ≡ late_at h₀.table v
  unfolding late_at
  lates v x = rw (C.flags v x, C.used v x)

  pub allotted_step : LegalColours (view h₀) → T ((view h₀).opened s) → Step (view h₀) (Event.writes (Write.allocate s i p n (address_of w))) (view (allotted s i w n p (with_table u h₀)))
  unfolding view words_at
  allotted_step A o =
      rw is_new (Trace.Step.allocate s i p n w (λ x. get_or after.arena x 0) (elements_in u (is pointer after)) (late_at u) A o hi apart
      (pointers, some) zeroed alone new_map old_map not_late lates)
    where
      apart : (v : ℕ) → T (is allocated h₀ v) → (v + words_at h₀.table v ≤ w) ⊎ (w + n ≤ v)
      apart v x = rw (← (C.long v x)) (clear_w v x)

      zeroed : (f : ℕ) → f < n → get_or after.arena (w + f) 0 ≡ 0
      zeroed f l = rw (word_at (w + f), within_yes w n (w + f) (omega arith) (omega arith))

      alone : (v : ℕ) → ((v < w) ⊎ (w + n ≤ v)) → get_or after.arena v 0 ≡ get_or h₀.arena v 0
      alone v (inl x) = rw (word_at v, within_low w n v x)
      alone v (inr x) = rw (word_at v, within_high w n v x)

-- the unswept span at page s swept, any one
module _ {h : Heap} (F : Audited h) (s : ℕ) (span : IsSpan h.table s) (unswept : unswept_flag ≤ kind_entry h.table s) where
  -- the words that are swept
  abbrev q : ℕ → Bool
  q = within (page_words * s) (page_words * page_count h.table s)

  abbrev then : Heap
  then = swept_span s h

  is_sweep_lem : view then ≡ heap_sweep q (elements_in (swept_table h s) (is pointer then)) (view h)
  unfolding view heap_sweep late_at
  is_sweep_lem = heap_eq refl (fun_ext (swept_at h F.sized s (F.spans.inside s span) allocated)) refl (fun_ext (late_swept F s span unswept))
      (colours_eq (fun_ext (swept_at h F.sized s (F.spans.inside s span) marked)) (fun_ext (swept_at h F.sized s (F.spans.inside s span) gray)) refl
      refl) refl refl refl refl

  was_late' : (w : ℕ) → T (is allocated h w) → T (q w) → late_at h.table w ≡ true
  unfolding late_at
  was_late' w a x = rw (was_late F s span unswept w (of_true _ x), ne_eqb (owner h.table (w / page_words)) 0 (omega (arith, (F.bits.element w a).lies.used)))

  stay_alike : (w : ℕ) → T (cond (q w) (is marked h w) (is allocated h w)) → Alike (elements_in (swept_table h s) (is pointer then)) (elements_in h.table (is pointer h)) w
  unfolding scans_at words_at
  stay_alike w x =
      let L = stay_like F s span unswept w x in (
        like_scan L,
        rw (like_words L) (run_cong (is pointer then) (is pointer h) w (element_words h.table (span_of h.table w))
            (stay_bits F s span unswept w x)),
        like_words L,
      )

  pub swept_step : LegalColours (view h) → phase h ≡ sweep → Step (view h) Event.sweep_step (view (swept_span s h))
  unfolding view
  swept_step A two = rw is_sweep_lem (Trace.Step.sweep_step q (elements_in (swept_table h s) (is pointer then)) A (rw two) was_late' stay_alike)

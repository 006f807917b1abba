-- The exact freed set, proved: the marked records at a finish are the saved ones, and the cycle frees the others.
use mathlib.Core.Path.{◌≡◌, refl, ap, sym, ◌∙◌}
use mathlib.Core.Bool.{Bool, false, not}
use mathlib.Core.Logic.{◌⊎◌, inl, inr}
use mathlib.Core.List.{List}
use Prim.Native.Nat.{ℕ, suc, ◌≤◌, ◌<◌}
use native.Mathlib.Omega.{arith}
use lib.Dec.{T, ltb, eqb→eq, nltb→le, ltb→lt}
use Rattle.model.proofs.Tests.{of_true}
use Rattle.marking.proofs.Updates.{update_same, test, and_both, and_left, and_right}
use Rattle.marking.specs.Effect.{in_cycle, in_marking}
use Rattle.marking.proofs.Effects.{in_cycle_lasting}
use Rattle.marking.proofs.Closure.{Closure, here, next, closure_in}
use Rattle.model.specs.Memory.{slot_count, word_of}
use Rattle.marking.proofs.Graph.{set_slot, empty_stack, birth}
use Rattle.marking.proofs.Colours.{Colours, Marked, shade, shade_all, ungray, set_gray_stack, blacken, shade_grows, shade_marks, shade_all_ungray}
use Rattle.marking.proofs.Operations
use Rattle.marking.proofs.Operations.{State, Operation, Allowed, perform, mark_at, operation_effect, freed_by_all}
use Rattle.marking.specs.WordHeap.{marking, WordHeap}
use Rattle.marking.proofs.Safety.{perform_keeps, finish_closed}
use Rattle.marking.proofs.Cycle.{sweeping, freed_one, freed_none, cycle_finish}
use Rattle.marking.proofs.Work.{darkens}
use Rattle.marking.proofs.Represents.{Layout, Live}
use Rattle.marking.specs.Event.{Source, Event, effect, Each}
use Rattle.marking.specs.Event
use Rattle.marking.specs.Ledger.{Ledger, feed, feed_all}
use Rattle.marking.specs.Trace
use Rattle.marking.specs.Trace.{Step, Steps, ready, more}
use Rattle.marking.specs.Claim.{is_allocated, work_in, freed_during, freed_to_end}
use Rattle.marking.proofs.Agreement.{Agrees}
use Rattle.marking.proofs.Refinement
use Rattle.marking.proofs.Refinement.{Becomes, agree, slot_record}
use Rattle.marking.proofs.Matches.{at_is}
use Rattle.marking.proofs.Freed.{is_allocated_is, Within, within, end_frees}
use Rattle.marking.proofs.Saving.{Saving, With, save_plain, save_shades, save_birth, save_store}
use Rattle.marking.specs.Survivors.{From, itself, field, Saves, SavedBy, Saved, is_marked, Exact}

-- what a value reaches, in the ledger and in the graph
module _ {H : WordHeap} {L : Ledger} {S : State} {Y : Layout} (R : Agrees H L S Y) where
  from_positive : {v x : ℕ} → From L v x → 0 < x
  from_positive (itself z) = z
  from_positive (field r f h z) = z

  from_step : {v x : ℕ} → From L v x → (f : ℕ) → 0 < S.graph.field x f → From L v (S.graph.field x f)
  from_step {v} {x} r f z = go (test (ltb f (L.pointers x)))
    where
      e : S.graph.field x f ≡ L.pointer x f
      e = R.describes.pointer x f (from_positive r)

      go : (T (ltb f (L.pointers x)) ⊎ T (not (ltb f (L.pointers x)))) → From L v (S.graph.field x f)
      go (inl h) = rw e (field r f (ltb→lt f (L.pointers x) h) (rw e at z))
      go (inr h) = absurd
          (omega (arith, R.invariant.shape.past_pointers x f (rw (R.describes.pointers x (from_positive r)) (nltb→le f (L.pointers x) h))))

  from_in : {P : ℕ → Type 0} {v x : ℕ} → Closure S.graph.field P v → From L v x → Closure S.graph.field P x
  from_in c (itself z) = c
  from_in c (field {x} r f h z) = rw (← (R.describes.pointer x f (from_positive r))) (next (from_in c r) f)

mark_at_field : (x : ℕ) (S : State) → (mark_at x S).graph.field ≡ S.graph.field
unfolding mark_at
mark_at_field x S = refl

finish_born : (S : State) → (perform Operations.finish S).graph.born ≡ S.graph.born
unfolding perform
finish_born S = refl

finish_allocated : (S : State) → (perform Operations.finish S).allocated ≡ S.allocated
unfolding perform
finish_allocated S = refl

finish_kept : (S : State) → (perform Operations.finish S).kept ≡ S.colours.marked
unfolding perform
finish_kept S = refl

finish_sweeps : (S : State) → T (sweeping (perform Operations.finish S).phase)
unfolding perform
finish_sweeps S = tt

-- a list of calls in the mark phase has left H and L, and K is what they saved
record Kept (K : ℕ → Type 0) (H : WordHeap) (L : Ledger) : Type 0 where
  state : State
  layout : Layout
  agrees : Agrees H L state layout
  marks : T (marking state.phase)
  saving : Saving K state

module _ {K : ℕ → Type 0} {H : WordHeap} {L : Ledger} {S : State} {Y : Layout} (R : Agrees H L S Y) (m : T (marking S.phase)) (Z : Saving K S) where
  keeps : {A : ℕ → Type 0} {c : Operation} {H' : WordHeap} {L' : Ledger} → T (in_marking (operation_effect c)) → Becomes c H' L' S →
      Saving (With K A) (perform c S) → Kept (With K A) H' L'
  keeps {A} {c} w B V' = record {
    state = perform c S;
    layout = B.layout;
    agrees = agree R B;
    marks = (darkens c S w B.allowed R.invariant m).phase;
    saving = V';
  }

  nothing : (x f : ℕ) → ⊥ → 0 < S.graph.field x f → ⊥
  nothing x f a z = a

  save_idle : (A : ℕ → Type 0) → ((x f : ℕ) → A x → 0 < S.graph.field x f → A (S.graph.field x f)) →
      ((x : ℕ) → A x → Closure S.graph.field (Marked S.colours) x) → Saving (With K A) (perform Operations.idle S)
  unfolding perform
  save_idle A closed inside = save_plain S Z closed S refl refl inside

  idles : {H' : WordHeap} {L' : Ledger} → Becomes Operations.idle H' L' S → Kept (With K (λ x. ⊥)) H' L'
  idles B = keeps tt B (save_idle (λ x. ⊥) nothing (λ x a. absurd a))

  assigns : {t i : ℕ} {v : Source} {H' : WordHeap} {L' : Ledger} → Becomes (Operations.assign t i v) H' L' S → Kept (With K (λ x. ⊥)) H' L'
  unfolding perform set_slot
  assigns {t} {i} {v} B = keeps tt B (save_plain S Z nothing (perform (Operations.assign t i v) S) refl refl (λ x a. absurd a))

  resets : {t : ℕ} {b : Bool} {H' : WordHeap} {L' : Ledger} → Becomes (Operations.reset_stack t b) H' L' S → Kept (With K (λ x. ⊥)) H' L'
  unfolding perform empty_stack set_gray_stack
  resets {t} {b} B = keeps tt B (save_plain S Z nothing (perform (Operations.reset_stack t b) S) refl refl (λ x a. absurd a))

  -- a and b are the old and the new value, as the ledger has them
  stores : {t x f v a b : ℕ} {H' : WordHeap} {L' : Ledger} → S.graph.field x f ≡ a → v ≡ b → Becomes (Operations.store t x f v) H' L' S →
      Kept (With K (λ y. From L a y ⊎ From L b y)) H' L'
  stores {t} {x} {f} {v} {a} {b} p q B = keeps tt B
      (save_store S Z closed t x f v m (λ z. inl (rw p (itself (rw p at z)))) (λ z. inr (rw q (itself (rw q at z)))) inside)
    where
      C' : Colours
      C' = shade S.graph v (shade S.graph (S.graph.field x f) S.colours)

      closed : (y g : ℕ) → From L a y ⊎ From L b y → 0 < S.graph.field y g →
          From L a (S.graph.field y g) ⊎ From L b (S.graph.field y g)
      closed y g (inl r) z = inl (from_step R r g z)
      closed y g (inr r) z = inr (from_step R r g z)

      inside : (y : ℕ) → From L a y ⊎ From L b y → Closure S.graph.field (Marked C') y
      inside y (inl r) = from_in R
          (rw (← p) (here (shade_grows S.graph v _ (S.graph.field x f) (shade_marks S.graph (S.graph.field x f) S.colours)))) r
      inside y (inr r) = from_in R (rw (← q) (here (shade_marks S.graph v _))) r

  births : {t i p : ℕ} {H' : WordHeap} {L' : Ledger} → Becomes (Operations.allocate t i p) H' L' S → Kept (With K (λ x. x ≡ suc L.count)) H' L'
  unfolding perform set_slot birth blacken
  births {t} {i} {p} B = keeps tt B
      (save_birth S Z closed (perform (Operations.allocate t i p) S) R.invariant.shape refl (rw (of_true (marking S.phase) m)) R.describes.born (λ x e. e ∙ sym R.describes.born))
    where
      closed : (x f : ℕ) → x ≡ suc L.count → 0 < S.graph.field x f → S.graph.field x f ≡ suc L.count
      closed x f e z = absurd
          (omega (arith, R.invariant.shape.past_pointers x f (rw (R.invariant.shape.unborn x (omega (arith, R.describes.born))) (omega arith))))

  -- what the slots of a stack reach, and what the globals reach
  abbrev Slots : ℕ → ℕ → Type 0
  Slots s x = (i : ℕ) × From L (L.slot s i) x

  abbrev Globals : ℕ → Type 0
  Globals x = (g : ℕ) × From L (L.global g) x

  slots_closed : (s x f : ℕ) → Slots s x → 0 < S.graph.field x f → Slots s (S.graph.field x f)
  slots_closed s x f a z = (a.0, from_step R a.1 f z)

  globals_closed : (x f : ℕ) → Globals x → 0 < S.graph.field x f → Globals (S.graph.field x f)
  globals_closed x f a z = (a.0, from_step R a.1 f z)

  slots_in : {P : ℕ → Type 0} (s : ℕ) → ((i : ℕ) → Closure S.graph.field P (S.graph.slot s i)) → (x : ℕ) → Slots s x →
      Closure S.graph.field P x
  slots_in s c x a = from_in R (rw (← (R.describes.slot s a.0)) (c a.0)) a.1

  globals_in : {P : ℕ → Type 0} → P 0 → (x : ℕ) → Globals x → Closure S.graph.field P x
  globals_in n x a = from_in R (rw (← (R.describes.global a.0)) (next (here n) a.0)) a.1

  scans : {s : ℕ} {H' : WordHeap} {L' : Ledger} → Becomes (Operations.scan_stack s) H' L' S → Kept (With K (Slots s)) H' L'
  unfolding perform set_gray_stack
  scans {s} B = keeps tt B (save_shades S Z (slots_closed s) (perform (Operations.scan_stack s) S) (S.graph.slot s) slot_count refl refl
      (λ i z. inr (i, rw (R.describes.slot s i) (itself (rw (R.describes.slot s i) at z))))
      (slots_in s (λ i. ((perform_keeps (Operations.scan_stack s) S B.allowed R.invariant).tricolour m).scanned s i (rw (update_same (shade_all S.graph (S.graph.slot s) slot_count S.colours).gray_stack s false) tt))))

  rescans : (s : ℕ) → T (not (H.bits.gray_stack s)) → Kept (With K (Slots s)) H L
  rescans s g = keeps tt (Refinement.step_idle R) (save_idle (Slots s) (slots_closed s)
      (slots_in s (λ i. (R.invariant.tricolour m).scanned s i (rw ((R.represents.colours m).gray_stack s) at g))))

  mark_at_marked : (x : ℕ) → Marked S.colours x →
      (mark_at x S).colours.marked ≡ (shade_all S.graph (S.graph.field x) (S.graph.pointers x) S.colours).marked
  unfolding mark_at ungray
  mark_at_marked x d = ap (λ (C : Colours). C.marked)
      (shade_all_ungray S.graph (S.graph.field x) (S.graph.pointers x) x S.colours d)

  scans_globals : {H' : WordHeap} {L' : Ledger} → Becomes Operations.scan_globals H' L' S → Kept (With K Globals) H' L'
  unfolding perform
  scans_globals B = keeps tt B
      (save_shades S Z globals_closed (perform Operations.scan_globals S) (S.graph.field 0) (S.graph.pointers 0) (mark_at_field 0 S) (mark_at_marked 0 (R.invariant.tricolour m).nil)
      (λ g z. inr (g, rw (R.describes.global g) (itself (rw (R.describes.global g) at z))))
      (globals_in ((perform_keeps Operations.scan_globals S B.allowed R.invariant).tricolour (darkens Operations.scan_globals S tt B.allowed R.invariant m).phase).nil))

  rescans_globals : Kept (With K Globals) H L
  rescans_globals = keeps tt (Refinement.step_idle R) (save_idle Globals globals_closed (globals_in (R.invariant.tricolour m).nil))

  takes : {x : ℕ} {H' : WordHeap} {L' : Ledger} → Becomes (Operations.mark_step x) H' L' S → Kept (With K (λ x. ⊥)) H' L'
  unfolding perform
  takes {x} B =
      let d = (R.invariant.tricolour m).gray_marked x B.allowed.2 in
      keeps tt B (save_shades S Z nothing (perform (Operations.mark_step x) S) (S.graph.field x) (S.graph.pointers x) (mark_at_field x S) (mark_at_marked x d)
      (λ f z. inl (Z.step x f (Z.marked x B.allowed.1 d) z)) (λ x a. absurd a))

  -- EVERY CALL in the mark phase saves what it is said to save
  saves : {e : Event} {H' : WordHeap} → Step H e H' → T (in_marking (effect e)) → Kept (With K (Saves e L)) H' (feed e L)
  unfolding feed
  saves Trace.nothing w = idles (Refinement.step_idle R)
  saves (Trace.setup H' F) w = absurd w
  saves (Trace.reset_stack s b A) w = resets (Refinement.step_reset_stack R s b A)
  saves (Trace.assign s i v A o h t) w = assigns (Refinement.step_assign R s i v A o h t)
  saves (Trace.store s j f k A z b) w =
      stores (R.describes.pointer (S.graph.slot s j) f (slot_record R s j z).0.0 ∙ ap (λ (n : ℕ). L.pointer n f) (R.describes.slot s j)) (R.describes.slot s k) (Refinement.step_store R s j f k A z b)
  saves (Trace.store_global s g i A h) w = stores (R.describes.global g) (R.describes.slot s i) (Refinement.step_store_global R s g i A h)
  saves (Trace.put s j f v A z b c) w = idles (Refinement.step_put R s j f v A z b c)
  saves (Trace.allocate s i p n v ar E u A o h a b c d e f g j) w = births
      (Refinement.step_allocate R s i p n v ar E u A o h a b c d e f g j)
  saves (Trace.get s j f z b c) w = idles (Refinement.step_idle R)
  saves (Trace.start A p) w = absurd w
  saves (Trace.scan_stack s A p) w = scans (Refinement.step_scan_stack R s A p)
  saves (Trace.rescan_stack s p g) w = rescans s g
  saves (Trace.scan_globals A p) w = scans_globals (Refinement.step_scan_globals R A p)
  saves (Trace.rescan_globals p g) w = rescans_globals
  saves (Trace.mark_step v A p g) w = takes (Refinement.step_mark_step R v A p g).1
  saves (Trace.finish u A p g gg gs h) w = absurd w
  saves (Trace.sweep_step q E A p d c) w = absurd w
  saves (Trace.end_cycle A p h) w = absurd w

-- .. and so does a list of calls
saves_all : {H H' : WordHeap} {es : List Event} → Steps H es H' → Each in_marking es → {K : ℕ → Type 0} {L : Ledger} → Kept K H L →
    Kept (SavedBy es L K) H' (feed_all es L)
unfolding SavedBy feed_all Each
saves_all ready w N = N
saves_all (more s ss) w N = saves_all ss w.1 (saves N.agrees N.marks N.saving s w.0)

-- nothing is saved at a start
start_kept : {H H' : WordHeap} {L : Ledger} {S : State} {Y : Layout} → Agrees H L S Y → Step H Event.start H' → Kept (λ x. ⊥) H' L
unfolding perform
start_kept {S = S} R (Trace.start A p) = record {
  state = perform Operations.start S;
  layout = (Refinement.step_start R A p).layout;
  agrees = agree R (Refinement.step_start R A p);
  marks = tt;
  saving = record { marked = λ x z e. absurd (omega (arith, eqb→eq x 0 e)); step = λ x f k. absurd k; within = λ x k. absurd k };
}

ends : {H H' : WordHeap} {L : Ledger} {S : State} {Y : Layout} → Step H Event.end_cycle H' → Agrees H L S Y → Allowed Operations.end_cycle S
ends (Trace.end_cycle A q f) R = (Refinement.step_end_cycle R A q f).allowed

-- AT A FINISH the saved records are the marked ones
module _ {K : ℕ → Type 0} {H : WordHeap} {L : Ledger} {S : State} {Y : Layout} (R : Agrees H L S Y) (m : T (marking S.phase)) (Z : Saving K S) (p : Allowed Operations.finish S) where
  saved_marked : (x : ℕ) → K x → Marked S.colours x
  saved_marked x k = closure_in (Marked S.colours) (λ y d. d)
      (finish_closed R.invariant.shape R.invariant.kept_closed (R.invariant.tricolour m) p.1 p.2).step (Z.within x k)

  marked_live : (x : ℕ) → 0 < x → Marked S.colours x → Live S.allocated x
  marked_live x z d = (z, R.invariant.kept_allocated x ((R.invariant.tricolour m).marked_kept x d))

  bit : (x : ℕ) → Live S.allocated x → H.bits.marked (word_of (L.address x)) ≡ S.colours.marked x
  bit x l = rw (at_is R x l) ((R.represents.colours m).marked x l)

  marks_saved : (x : ℕ) → 0 < x → x < S.graph.born → T (is_marked L H x) → K x
  marks_saved x z k t =
      let l : Live S.allocated x = (z, rw (is_allocated_is R x z k) at (and_left (is_allocated L H x) _ t)) in
      Z.marked x z (rw (bit x l) at (and_right (is_allocated L H x) _ t))

  saved_marks : (x : ℕ) → 0 < x → x < S.graph.born → K x → T (is_marked L H x)
  saved_marks x z k s =
      let d = saved_marked x s in
      let l = marked_live x z d in
      and_both (is_allocated L H x) _ (rw (is_allocated_is R x z k) l.1) (rw (bit x l) d)

  -- the rest of the cycle
  module _ {H₃ H₄ H₅ : WordHeap} {fs : List Event} (B : Becomes Operations.finish H₃ L S) (ss : Steps H₃ fs H₄) (w : Each in_cycle fs) (t : Step H₄ Event.end_cycle H₅)
      (x : ℕ) (z : 0 < x) (k : x < S.graph.born) (a : T (S.allocated x)) where
    W : Within in_cycle (work_in fs) H₄ (feed_all fs L) (perform Operations.finish S) (λ x. freed_during x L ss)
    W = within in_cycle in_cycle_lasting ss w (agree R B)

    frees : freed_to_end x L ss H₅ ≡ freed_by_all x W.calls (perform Operations.finish S)
    frees = omega (arith, W.frees x z (rw (finish_born S) k), end_frees x (feed_all fs L) t)

    frees_lost : ¬ (K x) → freed_to_end x L ss H₅ ≡ 1
    frees_lost u = frees ∙ freed_one (perform Operations.finish S) (perform_keeps Operations.finish S p R.invariant) W.calls W.each W.allowed
        (ends t W.agrees) x (rw (finish_allocated S) a)
        (cycle_finish S R.invariant p) k (λ d. u (Z.marked x z d))

    frees_saved : K x → freed_to_end x L ss H₅ ≡ 0
    frees_saved s = frees ∙ freed_none (perform Operations.finish S) (perform_keeps Operations.finish S p R.invariant) W.calls W.each W.allowed
        (ends t W.agrees) x (rw (finish_allocated S) a)
        (finish_sweeps S) (rw (finish_kept S) (saved_marked x s))

-- of what a list of calls has reached
pub reached_exact : {H : WordHeap} {L : Ledger} {S : State} {Y : Layout} → Agrees H L S Y → Exact H L
reached_exact {H} {L} R = record { marked = marked; freed = freed }
  where
    marked : {H₁ H₂ H₃ : WordHeap} {es : List Event} → Step H Event.start H₁ → Steps H₁ es H₂ → Each in_marking es → Step H₂ Event.finish H₃ →
        (x : ℕ) → 0 < x → x ≤ (feed_all es L).count → (T (is_marked (feed_all es L) H₂ x) → Saved es L x) × (Saved es L x → T (is_marked (feed_all es L) H₂ x))
    marked s ss w (Trace.finish u A p g gg gs h) x z k =
        let N = saves_all ss w (start_kept R s) in
        let q = (Refinement.step_finish N.agrees u A p g gg gs h).allowed in
        let l : x < N.state.graph.born = omega (arith, N.agrees.describes.born) in
        (marks_saved N.agrees N.marks N.saving q x z l, saved_marks N.agrees N.marks N.saving q x z l)

    freed : {H₁ H₂ H₃ H₄ H₅ : WordHeap} {es fs : List Event} → Step H Event.start H₁ → Steps H₁ es H₂ → Each in_marking es →
        Step H₂ Event.finish H₃ →
        (ss : Steps H₃ fs H₄) → Each in_cycle fs → Step H₄ Event.end_cycle H₅ →
        (x : ℕ) → 0 < x → x ≤ (feed_all es L).count → T (is_allocated (feed_all es L) H₂ x) →
        (¬ (Saved es L x) → freed_to_end x (feed_all es L) ss H₅ ≡ 1) × (Saved es L x → freed_to_end x (feed_all es L) ss H₅ ≡ 0)
    freed s rs v (Trace.finish u A p g gg gs h) ss w t x z k a =
        let N = saves_all rs v (start_kept R s) in
        let B = Refinement.step_finish N.agrees u A p g gg gs h in
        let l : x < N.state.graph.born = omega (arith, N.agrees.describes.born) in
        let b = rw (is_allocated_is N.agrees x z l) at a in
        (frees_lost N.agrees N.marks N.saving B.allowed B ss w t x z l b, frees_saved N.agrees N.marks N.saving B.allowed B ss w t x z l b)

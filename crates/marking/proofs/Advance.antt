-- Progress, proved: what is left to mark falls with each scan of something gray and each mark step, what is left to sweep with each sweep step that
-- meets an allocated record; and both are bounded.
use mathlib.Core.Path.{◌≡◌, refl, ◌∙◌}
use mathlib.Core.Bool.{Bool, true, false, not, cond, ◌&&◌}
use Prim.Native.Nat.{ℕ, suc, ◌+◌, ◌≤◌, ◌<◌}
use native.Mathlib.Omega.{arith}
use lib.Dec.{T}
use Rattle.marking.proofs.Updates.{contradicts, and_both, and_left, and_right, and_fails}
use Rattle.marking.specs.Effect.{as_number}
use Rattle.model.proofs.Bounded
use Rattle.marking.specs.Count.{count}
use Rattle.marking.proofs.Count.{count_le, count_lt, count_same}
use Rattle.marking.proofs.Operations.{State, Operation, perform}
use Rattle.marking.specs.WordHeap.{mark, marking, WordHeap, heap_sweep}
use Rattle.marking.proofs.Work.{black}
use Rattle.marking.proofs.Progress.{left, Collecting, scan_falls, globals_falls, mark_falls, collecting_phase}
use Rattle.model.specs.Memory.{word_of}
use Rattle.marking.proofs.Represents.{Layout, Live}
use Rattle.marking.specs.Event.{Event}
use Rattle.marking.specs.Event
use Rattle.marking.specs.Ledger.{Ledger, feed}
use Rattle.marking.specs.Trace
use Rattle.marking.specs.Trace.{Step}
use Rattle.marking.specs.Claim.{is_allocated}
use Rattle.marking.proofs.Agreement.{Agrees}
use Rattle.marking.proofs.Refinement
use Rattle.marking.proofs.Refinement.{Becomes, agree, phased}
use Rattle.marking.proofs.Matches.{at_is}
use Rattle.marking.proofs.Freed.{is_allocated_is}
use Rattle.marking.specs.Advance.{is_black, to_mark, to_sweep, Advances, scan, globals, step, Advancing}

to_mark_bound_lem : (n : ℕ) (L : Ledger) (H : WordHeap) → to_mark n L H ≤ n + 1 + count (is_allocated L H) (suc L.count)
unfolding to_mark
to_mark_bound_lem n L H = omega (
  arith,
  Bounded.count_bound n H.bits.gray_stack,
  one H.bits.gray_globals,
  count_le (λ x. is_allocated L H x && not (is_black L H x)) (is_allocated L H) (suc L.count) (λ x _ _ t. and_left (is_allocated L H x) _ t),
)
  where
    one : (b : Bool) → as_number b ≤ 1
    one true = omega arith
    one false = omega arith

to_sweep_bound_lem : (L : Ledger) (H : WordHeap) → to_sweep L H ≤ count (is_allocated L H) (suc L.count)
unfolding to_sweep
to_sweep_bound_lem L H = count_le (λ x. is_allocated L H x && H.unswept (word_of (L.address x))) (is_allocated L H) (suc L.count)
    (λ x _ _ t. and_left (is_allocated L H x) _ t)

module _ {H : WordHeap} {L : Ledger} {S : State} {Y : Layout} (R : Agrees H L S Y) (m : T (marking S.phase)) where
  to_mark_is : (n : ℕ) → to_mark n L H ≡ left n S
  unfolding to_mark
  to_mark_is n = rw (
    Bounded.count_cong n H.bits.gray_stack S.colours.gray_stack (λ t _. (R.represents.colours m).gray_stack t),
    (R.represents.colours m).gray_globals,
    ← R.describes.born,
    count_same (λ x. is_allocated L H x && not (is_black L H x)) (λ x. S.allocated x && not (black S.colours x)) S.graph.born same,
  )
    where
      same : (x : ℕ) → 0 < x → x < S.graph.born →
          (is_allocated L H x && not (is_black L H x)) ≡ (S.allocated x && not (black S.colours x))
      same x z k = rw (is_allocated_is R x z k) (go (S.allocated x) refl)
        where
          go : (b : Bool) → S.allocated x ≡ b → (b && not (is_black L H x)) ≡ (b && not (black S.colours x))
          go true e = let l : Live S.allocated x = (z, rw e tt) in rw (at_is R x l, (R.represents.colours m).marked x l, (R.represents.colours m).gray x l)
          go false e = refl

module _ {H : WordHeap} {L : Ledger} {S : State} {Y : Layout} (R : Agrees H L S Y) (p : H.phase ≡ mark) where
  falls : (n : ℕ) {c : Operation} {H' : WordHeap} → Collecting c → Becomes c H' L S → left n (perform c S) < left n S → to_mark n L H' < to_mark n L H
  falls n {c} {H'} d B h = rw (to_mark_is R m n, to_mark_is (agree R B) (rw (collecting_phase d S) m) n) h
    where
      m : T (marking S.phase)
      m = rw (phased R p) tt

  -- PROGRESS in the mark phase
  pub advance : (n : ℕ) {e : Event} {H' : WordHeap} → Step H e H' → Advances n H e → to_mark n (feed e L) H' < to_mark n L H
  unfolding feed
  advance n (Trace.scan_stack s A q) (scan _ h g) = falls n (Collecting.scan s) (Refinement.step_scan_stack R s A q)
      (scan_falls S R.invariant (phased R p) n s h (rw ((R.represents.colours (rw (phased R p) tt)).gray_stack s) at g))
  advance n (Trace.rescan_stack s q w) (scan _ h g) = contradicts (H.bits.gray_stack s) g w
  advance n (Trace.scan_globals A q) (globals g) = falls n Collecting.globals (Refinement.step_scan_globals R A q)
      (globals_falls S R.invariant (phased R p) n (rw (R.represents.colours (rw (phased R p) tt)).gray_globals at g))
  advance n (Trace.rescan_globals q w) (globals g) = contradicts H.bits.gray_globals g w
  advance n (Trace.mark_step w A q g) step =
      let r = Refinement.step_mark_step R w A q g in
      falls n (Collecting.step r.0) r.1 (mark_falls S R.invariant (phased R p) n r.0 r.1.allowed.1 r.1.allowed.2)
  advance n Trace.nothing a = elim a [ ]
  advance n (Trace.setup _ _) a = elim a [ ]
  advance n (Trace.reset_stack s b _) a = elim a [ ]
  advance n (Trace.assign s i v _ _ _ _) a = elim a [ ]
  advance n (Trace.store s j f k _ _ _) a = elim a [ ]
  advance n (Trace.store_global s g i _ _) a = elim a [ ]
  advance n (Trace.put s j f v _ _ _ _) a = elim a [ ]
  advance n (Trace.allocate s i _ _ w arena E unswept _ _ _ _ _ _ _ _ _ _ _) a = elim a [ ]
  advance n (Trace.get s j f _ _ _) a = elim a [ ]
  advance n (Trace.start _ _) a = elim a [ ]
  advance n (Trace.finish unswept _ _ _ _ _ _) a = elim a [ ]
  advance n (Trace.sweep_step q E _ _ _ _) a = elim a [ ]
  advance n (Trace.end_cycle _ _ _) a = elim a [ ]

-- PROGRESS in the sweep phase: where an allocated word is unswept before a sweep step and not after it
pub sweep_advance : {H H' : WordHeap} {L : Ledger} {S : State} {Y : Layout} → Agrees H L S Y → Step H Event.sweep_step H' → (w : ℕ) →
    T (H.allocated w) → T (H.unswept w) → T (not (H'.unswept w)) →
    to_sweep L H' < to_sweep L H
unfolding to_sweep heap_sweep
sweep_advance {H} {H'} {L} {S} {Y} R (Trace.sweep_step q E A p d c) w a u n = go (R.represents.placed.only w a)
  where
    G : WordHeap
    G = heap_sweep q E H

    before : (b k o : Bool) → T (cond b k o) → (T k → T o) → T o
    before true k o t f = f t
    before false k o t f = t

    still : (b o : Bool) → T (cond b false o) → T o
    still true o t = absurd t
    still false o t = t

    was : (x : ℕ) → T (is_allocated L G x && G.unswept (word_of (L.address x))) →
        T (is_allocated L H x && H.unswept (word_of (L.address x)))
    was x t =
        let v = word_of (L.address x) in
        let i = and_left (is_allocated L G x) _ t in
        and_both (is_allocated L H x) _
        (and_both (H.allocated v) _ (before (q v) (H.bits.marked v) (H.allocated v) (and_left (G.allocated v) _ i) (A.marked_allocated v)) (and_right (G.allocated v) _ i))
        (still (q v) (H.unswept v) (and_right (is_allocated L G x) _ t))

    go : (x : ℕ) × Live S.allocated x × (Y.at x ≡ w) →
        count (λ x. is_allocated L G x && G.unswept (word_of (L.address x))) (suc L.count) < count (λ x. is_allocated L H x && H.unswept (word_of (L.address x))) (suc L.count)
    go r =
        let b = R.invariant.allocated_born r.0 r.1.1 in
        let e : word_of (L.address r.0) ≡ w = at_is R r.0 r.1 ∙ r.2 in
        count_lt (λ x. is_allocated L G x && G.unswept (word_of (L.address x))) (λ x. is_allocated L H x && H.unswept (word_of (L.address x))) (suc L.count) r.0 r.1.0 (omega (arith, R.describes.born))
        (and_fails (is_allocated L G r.0) (G.unswept (word_of (L.address r.0))) (rw e n))
        (and_both (is_allocated L H r.0) _ (rw (is_allocated_is R r.0 r.1.0 b) r.1.1) (rw e u)) (λ x _ _. was x)

-- THE THEOREM, of a heap that agrees with a ledger
pub advancing : {H : WordHeap} {L : Ledger} {S : State} {Y : Layout} → Agrees H L S Y → Advancing H L
advancing {H} {L} R = record {
  to_mark_bound = λ n. to_mark_bound_lem n L H;
  to_sweep_bound = to_sweep_bound_lem L H;
  marks = λ n p s a. advance R p n s a;
  sweeps = λ s w a u n. sweep_advance R s w a u n;
}

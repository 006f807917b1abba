-- DEMAND 3, proved: after a setup and any list of calls, among them further setups, the claim of the file Claim holds.
use mathlib.Core.Path.{◌≡◌, refl}
use mathlib.Core.Bool.{Bool, true, false, not, cond}
use mathlib.Core.Logic.{inl, inr}
use mathlib.Core.List.{List}
use Prim.Native.Nat.{ℕ, suc, ◌+◌, ◌≤◌, ◌<◌}
use native.Mathlib.Omega.{arith}
use lib.Dec.{T, eqb}
use borrow.Author.Tests.{eq-eqb}
use Rattle.model.proofs.Tests.{of_true, of_false}
use Rattle.marking.specs.Effect.{in_cycle, in_marking, is_sweep, as_number, turned_off}
use Rattle.marking.proofs.Effects.{in_cycle_lasting, in_marking_lasting}
use Rattle.marking.proofs.Operations
use Rattle.marking.proofs.Operations.{State, perform, perform_all}
use Rattle.marking.specs.WordHeap.{marking, WordHeap, record_in}
use Rattle.marking.proofs.Safety.{perform_keeps}
use Rattle.marking.specs.Count.{count}
use Rattle.marking.proofs.Count.{count_le}
use Rattle.marking.proofs.Work.{work_bounded}
use Rattle.marking.proofs.Cycle.{freed_once, start_born}
use Rattle.model.specs.Memory.{address_of, word_of}
use Rattle.marking.proofs.Represents.{Layout, Live}
use Rattle.marking.specs.Event.{Event, effect, Each}
use Rattle.marking.specs.Event
use Rattle.marking.specs.Ledger.{Ledger, feed, feed_all, ledger_word, Reachable, last_born}
use Rattle.marking.specs.Trace.{Step, Steps, start, end_cycle, get}
use Rattle.marking.proofs.Agreement.{Agrees}
use Rattle.marking.proofs.Refinement.{after, agree, phased, step_start, step_end_cycle}
use Rattle.marking.specs.Claim.{Answers, Correct, freed_in, freed_during, freed_to_end, is_allocated, work_in}
use Rattle.marking.proofs.Matches.{matches, back, got, at_is}
use Rattle.marking.proofs.Freed.{Reached, Within, within, last_is, Tally, is_allocated_is, end_frees}

start_marks : (S : State) → T (marking (perform Operations.start S).phase)
unfolding perform
start_marks S = tt

module _ {H : WordHeap} {L : Ledger} {S : State} {Y : Layout} (R : Agrees H L S Y) where
  got_word : {s j f : ℕ} {H' : WordHeap} → Step H (Event.get s j f) H' → H'.arena (record_in H' s j + f) ≡ ledger_word L (L.slot s j) f
  got_word (get s j f z b c) = got R s j f z b c

  answers : {e : Event} {H' : WordHeap} → Step H e H' → Answers e H' (feed e L)
  unfolding feed
  answers st = record { slots = (matches (after R st)).slots; got = λ s j f p. rw p (got_word (rw p at st)) }

  -- a cycle: start, calls that neither end it nor break it off, and the sweep step that ends it
  cycle : {H₁ H₂ H₃ : WordHeap} {es : List Event} → Step H Event.start H₁ → (ss : Steps H₁ es H₂) → Each in_cycle es →
      Step H₂ Event.end_cycle H₃ →
      (x : ℕ) → 0 < x → x < S.graph.born → T (S.allocated x) → ¬ (Reachable L x) → freed_to_end x L ss H₃ ≡ 1
  cycle {H₁} {H₂} {H₃} {es} (start A p) ss w (end_cycle B q f) x h k a u = go
      (within in_cycle in_cycle_lasting ss w (agree R (step_start R A p)))
    where
      go : Within in_cycle (work_in es) H₂ (feed_all es L) (perform Operations.start S) (λ x. freed_during x L ss) → freed_to_end x L ss H₃ ≡ 1
      go W = omega (
        arith,
        W.frees x h (omega (arith, start_born S)),
        freed_once S R.invariant W.calls W.each (step_start R A p).allowed W.allowed (step_end_cycle W.agrees B q f).allowed x k a
            (λ r. elim (back R r) [ inl e ↦ omega arith | inr y ↦ u y ]),
        end_frees x (feed_all es L) (end_cycle B q f),
      )

  -- the mark steps that do work, up to the finish
  bound : {H₁ H₂ H₃ : WordHeap} {es : List Event} → Step H Event.start H₁ → (ss : Steps H₁ es H₂) → Each in_marking es →
      Step H₂ Event.finish H₃ →
      work_in es ≤ count (is_allocated (feed_all es L) H₂) (suc (feed_all es L).count)
  bound {H₁} {H₂} {H₃} {es} (start A p) ss w t = go (within in_marking in_marking_lasting ss w (agree R (step_start R A p)))
    where
      go : Within in_marking (work_in es) H₂ (feed_all es L) (perform Operations.start S) (λ x. freed_during x L ss) →
          work_in es ≤ count (is_allocated (feed_all es L) H₂) (suc (feed_all es L).count)
      go W =
          let Z = perform_all W.calls (perform Operations.start S) in
          rw (← W.agrees.describes.born) (omega (
            arith,
            W.work,
            work_bounded W.calls (perform Operations.start S) W.each W.allowed (perform_keeps Operations.start S (phased R p) R.invariant) (start_marks S),
            count_le Z.allocated (is_allocated (feed_all es L) H₂) Z.graph.born (λ x h k a. rw (is_allocated_is W.agrees x h k) a),
          ))

  -- an allocated bit stands at the record last born there
  at_bit : (w : ℕ) → T (H.allocated w) → Live S.allocated (last_born L (address_of w)) × (Y.at (last_born L (address_of w)) ≡ w)
  at_bit w a = go (R.represents.placed.only w a)
    where
      go : (x : ℕ) × Live S.allocated x × (Y.at x ≡ w) →
          Live S.allocated (last_born L (address_of w)) × (Y.at (last_born L (address_of w)) ≡ w)
      go r =
          let e : L.address r.0 ≡ address_of w = rw (← r.2) (R.describes.address r.0 r.1.0 (R.invariant.allocated_born r.0 r.1.1)) in
          rw (← e, last_is R r.0 r.1) (r.1, r.2)

  frees : (n : ℕ → ℕ) → ((x : ℕ) → 0 < x → Tally x (n x) S) → (w : ℕ) → T (H.allocated w) →
      (0 < last_born L (address_of w)) × (last_born L (address_of w) ≤ L.count) × (n (last_born L (address_of w)) ≡ 0)
  frees n t w a = go (last_born L (address_of w)) (at_bit w a).0
    where
      go : (x : ℕ) → Live S.allocated x → (0 < x) × (x ≤ L.count) × (n x ≡ 0)
      go x l =
          let b = R.invariant.allocated_born x l.1 in
          (l.0, omega (arith, R.describes.born), omega (arith, rw (of_true (S.allocated x) l.1) at ((t x l.0).0 b)))

  freed : (e : Event) → T (is_sweep (effect e)) → (H' : WordHeap) (w : ℕ) → T (H.allocated w) → T (not (H'.allocated w)) →
      freed_in (last_born L (address_of w)) L H e H' ≡ 1
  unfolding freed_in
  freed e t H' w a d = go (last_born L (address_of w)) (at_bit w a)
    where
      go : (x : ℕ) → Live S.allocated x × (Y.at x ≡ w) →
          cond (eqb (last_born L (L.address x)) x) (turned_off (effect e) (H.allocated (word_of (L.address x))) (H'.allocated (word_of (L.address x)))) 0 ≡ 1
      go x l = rw (last_is R x l.0, eq-eqb x x refl, of_true (is_sweep (effect e)) t, at_is R x l.0, l.1, of_true (H.allocated w) a, of_false (H'.allocated w) d)

one_true : (b : Bool) → as_number b ≡ 1 → T b
one_true true e = tt
one_true false e = absurd (omega arith)

-- of what a list of calls has reached
pub reached_correct : {H : WordHeap} {L : Ledger} {n : ℕ → ℕ} → Reached H L n → Correct H L n
reached_correct {H} {L} {n} N = record {
  matches = matches N.agrees;
  answers = λ s. answers N.agrees s;
  unfreed = frees N.agrees n N.tally;
  freed = λ {e} {H'} s t w a d. freed N.agrees e t H' w a d;
  works = λ s ss w t. bound N.agrees s ss w t;
  cycles = λ s ss w t x h k f u. let b : x < N.state.graph.born = omega (arith, N.agrees.describes.born) in
      cycle N.agrees s ss w t x h b (one_true (N.state.allocated x) (omega (arith, (N.tally x h).0 b, f))) u;
}

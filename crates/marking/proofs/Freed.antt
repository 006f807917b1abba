-- What the heap and the ledger show of freeing is what the abstract heap frees; and a record that is born was freed once since the last
-- setup, or is allocated.
use mathlib.Core.Path.{◌≡◌, refl, sym, ◌∙◌}
use mathlib.Core.Bool.{Bool, true, false, not, cond, ◌&&◌, and-true, and-false, and-not_self}
use mathlib.Core.Logic.{◌⊎◌, inl, inr, ◌≢◌}
use mathlib.Core.List.{List, [], ◌∷◌}
use Prim.Native.Nat.{ℕ, zero, suc, ◌+◌, ◌≤◌, ◌<◌}
use native.Mathlib.Omega.{arith}
use lib.Dec.{T, eqb, ltb, eqb→eq, nltb→le, ltb→lt}
use borrow.Author.Tests.{ne_eqb, eq-eqb}
use Rattle.model.proofs.Tests.{of_true, of_false}
use Rattle.marking.proofs.Updates.{test, contradicts, differ, and_left, and_right}
use Rattle.marking.specs.Effect.{Effect, setsUp, ◌is◌, lasting, is_sweep, turned_off, as_number, work}
use Rattle.marking.proofs.Effects.{sweep_lasting}
use Rattle.marking.proofs.Operations.{State, Operation, perform, perform_all, initial, AllAllowed, operation_effect, EachOperation, freed_by, freed_by_all}
use Rattle.marking.proofs.Cycle.{Counted, Fate, anew, goes_on, fate, counted_by}
use Rattle.marking.proofs.Work.{works}
use Rattle.marking.specs.WordHeap.{WordHeap, heap_end_cycle}
use Rattle.model.specs.Memory.{word_of}
use Rattle.marking.proofs.Represents.{Layout, Live}
use Rattle.marking.specs.Event.{Event, effect, Each}
use Rattle.marking.specs.Event
use Rattle.marking.specs.Ledger.{Ledger, feed, feed_all, empty, last_of, last_born}
use Rattle.marking.specs.Trace.{Fresh, Step, Steps, ready, more, end_cycle}
use Rattle.marking.proofs.Agreement.{Agrees, no_layout, fresh_agrees}
use Rattle.marking.proofs.Refinement.{abstract_step, after}
use Rattle.marking.specs.Claim.{is_allocated, work_in, freed_in, freed_during, freed_since}
use Rattle.marking.proofs.Matches.{at_born, at_is}

-- the record last born at an address
last_of_le : (at : ℕ → ℕ) (n a : ℕ) → last_of at n a ≤ n
unfolding last_of
last_of_le at zero a = omega arith
last_of_le at (suc k) a = go (eqb (at (suc k)) a) (last_of_le at k a)
  where
    go : (b : Bool) → last_of at k a ≤ k → cond b (suc k) (last_of at k a) ≤ suc k
    go true h = omega arith
    go false h = omega arith

last_of_is : (at : ℕ → ℕ) (n x : ℕ) → 0 < x → x ≤ n → ((y : ℕ) → x < y → y ≤ n → at y ≢ at x) →
    last_of at n (at x) ≡ x
unfolding last_of
last_of_is at zero x h k f = absurd (omega arith)
last_of_is at (suc n) x h k f = go (test (eqb x (suc n))) (λ l. last_of_is at n x h l (λ y u v. f y u (omega arith)))
  where
    go : (T (eqb x (suc n)) ⊎ T (not (eqb x (suc n)))) → (x ≤ n → last_of at n (at x) ≡ x) →
        cond (eqb (at (suc n)) (at x)) (suc n) (last_of at n (at x)) ≡ x
    go (inl e) ih = rw (eqb→eq x (suc n) e, eq-eqb (at (suc n)) (at (suc n)) refl)
    go (inr e) ih = let l : x ≤ n = omega (arith, differ x (suc n) e) in rw (ne_eqb (at (suc n)) (at x) (f (suc n) (omega arith) (omega arith))) (ih l)

module _ {H : WordHeap} {L : Ledger} {S : State} {Y : Layout} (R : Agrees H L S Y) where
  addresses_differ : (x y : ℕ) → 0 < x → x < S.graph.born → 0 < y → y < S.graph.born → Y.at y ≢ Y.at x → L.address y ≢ L.address x
  addresses_differ x y h k u v d = rw (R.describes.address x h k, R.describes.address y u v) (λ e. d (omega arith))

  pub last_is : (x : ℕ) → Live S.allocated x → last_born L (L.address x) ≡ x
  last_is x l = last_of_is L.address L.count x l.0 (omega (arith, R.describes.born, R.invariant.allocated_born x l.1))
      (λ y h k. addresses_differ x y l.0 (R.invariant.allocated_born x l.1) (omega arith) (omega (arith, R.describes.born)) (R.last x y l h (omega (arith, R.describes.born))))

  pub is_allocated_is : (x : ℕ) → 0 < x → x < S.graph.born → is_allocated L H x ≡ S.allocated x
  is_allocated_is x h k = go (test (S.allocated x)) (test (is_allocated L H x))
    where
      find : T (is_allocated L H x) → ((z : ℕ) × Live S.allocated z × (Y.at z ≡ Y.at x)) → T (S.allocated x)
      find m r =
          let same : L.address r.0 ≡ L.address x = rw (R.describes.address r.0 r.1.0 (R.invariant.allocated_born r.0 r.1.1), R.describes.address x h k, r.2) in
          let p = rw same at (last_is r.0 r.1) in
          let q = eqb→eq (last_born L (L.address x)) x (and_right (H.allocated (word_of (L.address x))) _ m) in
          rw (sym q ∙ p) r.1.1

      go : (T (S.allocated x) ⊎ T (not (S.allocated x))) → (T (is_allocated L H x) ⊎ T (not (is_allocated L H x))) →
          is_allocated L H x ≡ S.allocated x
      go (inl a) m = let l : Live S.allocated x = (h, a) in
          rw (at_is R x l, of_true (H.allocated (Y.at x)) (R.represents.placed.on x l), last_is x l, eq-eqb x x refl, of_true (S.allocated x) a)
      go (inr a) (inl m) = contradicts (S.allocated x)
          (find m (R.represents.placed.only (Y.at x) (rw (at_born R x h k) at (and_left (H.allocated (word_of (L.address x))) _ m)))) a
      go (inr a) (inr m) = rw (of_false (is_allocated L H x) m, of_false (S.allocated x) a)

-- what a call frees, by what is allocated before and after it
freed_in_is : (x : ℕ) (L : Ledger) (H : WordHeap) (e : Event) (H' : WordHeap) →
    freed_in x L H e H' ≡ turned_off (effect e) (is_allocated L H x) (is_allocated L H' x)
unfolding freed_in
freed_in_is x L H e H' = go (is_sweep (effect e)) (eqb (last_born L (L.address x)) x) (H.allocated (word_of (L.address x))) (H'.allocated (word_of (L.address x)))
  where
    go : (s l a a' : Bool) → cond l (as_number (s && a && not a')) 0 ≡ as_number (s && (a && l) && not (a' && l))
    go s true a a' = simp and-true
    go s false a a' = simp and-false

-- a sweep step leaves the ledger alone, so that it may be taken after the call
swept_ledger : (e : Event) (L : Ledger) → T (is_sweep (effect e)) → feed e L ≡ L
unfolding feed
swept_ledger (Event.writes w) L t = absurd t
swept_ledger (Event.get s j f) L t = absurd t
swept_ledger (Event.scan_stack s) L t = absurd t
swept_ledger Event.scan_globals L t = absurd t
swept_ledger (Event.acts c) L t = rw (of_false (c is setsUp) (sweep_lasting c t))

shown : (x : ℕ) (L : Ledger) (H : WordHeap) (e : Event) (H' : WordHeap) →
    freed_in x L H e H' ≡ turned_off (effect e) (is_allocated L H x) (is_allocated (feed e L) H' x)
shown x L H e H' = freed_in_is x L H e H' ∙ go (test (is_sweep (effect e)))
  where
    go : (T (is_sweep (effect e)) ⊎ T (not (is_sweep (effect e)))) →
        turned_off (effect e) (is_allocated L H x) (is_allocated L H' x) ≡ turned_off (effect e) (is_allocated L H x) (is_allocated (feed e L) H' x)
    go (inl t) = rw (swept_ledger e L t)
    go (inr t) = rw (of_false (is_sweep (effect e)) t)

-- the sweep step that ends a cycle turns no allocated bit off
pub end_frees : {H H' : WordHeap} (x : ℕ) (L : Ledger) → Step H Event.end_cycle H' → freed_in x L H Event.end_cycle H' ≡ 0
unfolding heap_end_cycle
end_frees {H} x L (end_cycle A p h) = freed_in_is x L H Event.end_cycle (heap_end_cycle H) ∙ simp and-not_self

unborn_freed_in : (x : ℕ) (L : Ledger) (H : WordHeap) (e : Event) (H' : WordHeap) → L.count < x → freed_in x L H e H' ≡ 0
unfolding freed_in
unborn_freed_in x L H e H' h = rw (ne_eqb (last_born L (L.address x)) x (omega (arith, last_of_le L.address L.count (L.address x))))

-- since the last setup a record was freed n times: once or not at all, as it is allocated or not; none before it is born
abbrev pub Tally : ℕ → ℕ → State → Type 0
Tally x n S = (x < S.graph.born → n + as_number (S.allocated x) ≡ 1) × (S.graph.born ≤ x → n ≡ 0)

module _ {H : WordHeap} {L : Ledger} {S : State} {Y : Layout} (R : Agrees H L S Y) {e : Event} {H' : WordHeap} (s : Step H e H') where
  abbrev c : Operation
  c = (abstract_step R s).call

  lasting_too : T (lasting (effect e)) → T (lasting (operation_effect c))
  lasting_too o = rw (abstract_step R s).effect o

  pub counts : T (lasting (effect e)) → Counted S (perform c S) (λ x. freed_by x c S)
  counts o = counted_by c S (lasting_too o) R.invariant

  pub step_frees : (x : ℕ) → 0 < x → x < S.graph.born → T (lasting (effect e)) → freed_in x L H e H' ≡ freed_by x c S
  step_frees x h k o = rw ((abstract_step R s).effect, ← (is_allocated_is R x h k), ← (is_allocated_is (after R s) x h (omega (arith, (counts o).grows))))
      (shown x L H e H')

  tally_step : (x n : ℕ) → 0 < x → Tally x n S → Tally x (cond (lasting (effect e)) (n + freed_in x L H e H') 0) (perform c S)
  tally_step x n h t = go (fate c S R.invariant)
    where
      lasts : T (lasting (effect e)) → (T (ltb x S.graph.born) ⊎ T (not (ltb x S.graph.born))) →
          Tally x (n + freed_in x L H e H') (perform c S)
      lasts o (inl b) = let k : x < S.graph.born = ltb→lt x S.graph.born b in
          ((λ _. omega (arith, t.0 k, (counts o).account x k, step_frees x h k o)), (λ u. absurd (omega (arith, (counts o).grows))))
      lasts o (inr b) =
          let k : S.graph.born ≤ x = nltb→le x S.graph.born b in
          let z : freed_in x L H e H' ≡ 0 = unborn_freed_in x L H e H' (omega (arith, R.describes.born)) in
          ((λ u. rw (of_true ((perform c S).allocated x) ((counts o).newborn x k u)) (omega (arith, t.1 k))), (λ u. omega (arith, t.1 k)))

      go : Fate c S → Tally x (cond (lasting (effect e)) (n + freed_in x L H e H') 0) (perform c S)
      go (anew i r) = rw (← (abstract_step R s).effect, i, r) ((λ k. absurd (omega arith)), (λ k. refl))
      go (goes_on o d) = let o' : T (lasting (effect e)) = rw (← (abstract_step R s).effect) o in rw (of_true (lasting (effect e)) o') (lasts o' (test (ltb x S.graph.born)))

-- what a list of calls leaves: an abstract state between the heap and the ledger, and n x, how often x was freed since the last setup
pub record Reached (H : WordHeap) (L : Ledger) (n : ℕ → ℕ) : Type 0 where
  pub state : State
  pub layout : Layout
  pub agrees : Agrees H L state layout
  pub tally : (x : ℕ) → 0 < x → Tally x (n x) state

pub fresh_reached : (H : WordHeap) → Fresh H → Reached H empty (λ x. 0)
fresh_reached H F = record { state = initial; layout = no_layout; agrees = fresh_agrees H F; tally = λ x h. ((λ k. absurd (omega arith)), (λ k. refl)) }

pub reached_step : {H H' : WordHeap} {e : Event} (s : Step H e H') {L : Ledger} {n : ℕ → ℕ} → Reached H L n →
    Reached H' (feed e L) (λ x. cond (lasting (effect e)) (n x + freed_in x L H e H') 0)
reached_step s N = record {
  state = perform (abstract_step N.agrees s).call N.state;
  layout = (abstract_step N.agrees s).becomes.layout;
  agrees = after N.agrees s;
  tally = λ x h. tally_step N.agrees s x _ h (N.tally x h);
}

pub reached : {H H' : WordHeap} {es : List Event} (ss : Steps H es H') {L : Ledger} {n : ℕ → ℕ} → Reached H L n →
    Reached H' (feed_all es L) (λ x. freed_since x (n x) L ss)
unfolding feed_all freed_since
reached ready N = N
reached (more s ss) N = reached ss (reached_step s N)

-- the calls of the abstract heap that a list of steps is, where the effect of each passes a test that no setup passes
pub record Within (test : Effect → Bool) (k : ℕ) (H : WordHeap) (L : Ledger) (S : State) (n : ℕ → ℕ) : Type 0 where
  pub calls : List Operation
  pub allowed : AllAllowed calls S
  pub each : EachOperation test calls
  pub layout : Layout
  pub agrees : Agrees H L (perform_all calls S) layout
  pub work : works calls ≡ k
  pub frees : (x : ℕ) → 0 < x → x < S.graph.born → n x ≡ freed_by_all x calls S

pub within : (test : Effect → Bool) → ((e : Effect) → T (test e) → T (lasting e)) → {H H' : WordHeap} {es : List Event} (ss : Steps H es H') {L : Ledger} {S : State} {Y : Layout} →
    Each test es → Agrees H L S Y → Within test (work_in es) H' (feed_all es L) S (λ x. freed_during x L ss)
unfolding freed_during feed_all Each work_in perform_all AllAllowed EachOperation freed_by_all works
within test last ready {L} {S} {Y} w R = record { calls = []; allowed = tt; each = tt; layout = Y; agrees = R; work = refl; frees = λ x h k. refl }
within test last (more {H} {H₁} {H₂} {e} {es} s ss) {L} {S} {Y} w R = go (within test last ss w.1 (after R s))
  where
    o : T (lasting (effect e))
    o = last (effect e) w.0

    go : Within test (work_in es) H₂ (feed_all es (feed e L)) (perform (abstract_step R s).call S) (λ x. freed_during x (feed e L) ss) →
        Within test (work (effect e) + work_in es) H₂ (feed_all es (feed e L)) S (λ x. freed_in x L H e H₁ + freed_during x (feed e L) ss)
    go W = record {
      calls = (abstract_step R s).call ∷ W.calls;
      allowed = ((abstract_step R s).becomes.allowed, W.allowed);
      each = (rw (abstract_step R s).effect w.0, W.each);
      layout = W.layout;
      agrees = W.agrees;
      work = rw ((abstract_step R s).effect, W.work);
      frees = λ x h k. omega (arith, step_frees R s x h k o, W.frees x h (omega (arith, (counts R s o).grows)));
    }

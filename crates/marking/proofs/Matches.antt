-- A heap that agrees with the ledger matches it: slots, globals, and the words of what can be reached. What the ledger reaches is what the
-- abstract heap reaches.
use mathlib.Core.Path.{◌≡◌, refl, sym, ◌∙◌}
use mathlib.Core.Bool.{not, cond}
use mathlib.Core.Logic.{◌⊎◌, inl, inr, ◌≢◌}
use Prim.Native.Nat.{ℕ, ◌+◌, ◌≤◌, ◌<◌}
use native.Mathlib.Omega.{arith}
use lib.Dec.{T, eqb, ltb, eqb→eq, nltb→le, ltb→lt}
use borrow.Author.Tests.{le-ltb}
use Rattle.model.proofs.Tests.{of_true, of_false}
use Rattle.marking.proofs.Updates.{test, differ}
use Rattle.marking.proofs.Closure.{here, next, closure_in}
use Rattle.marking.proofs.Graph.{Root, globals, in_slot, Reach}
use Rattle.marking.proofs.Operations.{State}
use Rattle.marking.proofs.Safety.{reach_kept}
use Rattle.model.specs.Memory.{address_of, word_of}
use Rattle.marking.specs.WordHeap.{WordHeap, named}
use Rattle.marking.proofs.Represents.{Layout, address, Live, address_live, word_address}
use Rattle.marking.specs.Ledger.{Ledger, value, ledger_word, Reachable, stack, global, field}
use Rattle.marking.proofs.Agreement.{Agrees}
use Rattle.marking.proofs.Refinement.{slot_record}
use Rattle.marking.specs.Claim.{MatchesLedger}

module _ {H : WordHeap} {L : Ledger} {S : State} {Y : Layout} (R : Agrees H L S Y) where
  value_is : (x : ℕ) → x < S.graph.born → address Y x ≡ value L x
  unfolding address value
  value_is x h = go (test (eqb x 0))
    where
      go : (T (eqb x 0) ⊎ T (not (eqb x 0))) → cond (eqb x 0) 0 (address_of (Y.at x)) ≡ cond (eqb x 0) 0 (L.address x)
      go (inl e) = rw (of_true (eqb x 0) e)
      go (inr e) = rw (of_false (eqb x 0) e) (sym (R.describes.address x (omega (arith, differ x 0 e)) h))

  pub reaches : {x : ℕ} → Reachable L x → (0 < x) × Reach S.graph x
  reaches (stack s i o h) = (h, rw (← (R.describes.slot s i)) (here (in_slot s i)))
  reaches (global g h) = (h, rw (← (R.describes.global g)) (next (here globals) g))
  reaches (field {x} r f k h) = let q = reaches r in (h, rw (← (R.describes.pointer x f q.0)) (next q.1 f))

  pub live : {x : ℕ} → Reachable L x → Live S.allocated x
  live r = let q = reaches r in (q.0, R.invariant.kept_allocated _ (reach_kept S R.invariant q.1))

  pub at_born : (x : ℕ) → 0 < x → x < S.graph.born → word_of (L.address x) ≡ Y.at x
  at_born x h k = rw (R.describes.address x h k, ← (address_live Y x h)) (word_address Y x h)

  pub at_is : (x : ℕ) → Live S.allocated x → word_of (L.address x) ≡ Y.at x
  at_is x l = at_born x l.0 (R.invariant.allocated_born x l.1)

  pub matches : MatchesLedger H L
  unfolding ledger_word
  matches = record {
    opened = λ t. R.represents.opened t ∙ R.describes.opened t;
    slots = λ t i. rw (← (R.describes.slot t i))
        (R.represents.words.slot t i ∙ value_is (S.graph.slot t i) (R.invariant.born_closed.root t i));
    globals = λ g. rw (← (R.describes.global g))
        (R.represents.words.global g ∙ value_is (S.graph.field 0 g) (R.invariant.born_closed.step 0 g R.invariant.born_closed.nil));
    allocated = λ x r. rw (at_is x (live r)) (R.represents.placed.on x (live r));
    words = λ x f r h. words x f (live r) h (test (ltb f (L.pointers x)));
    apart = λ x y f g r q d h k. rw (at_is x (live r), at_is y (live q)) (apart x y f g (live r) (live q) d h k);
  }
    where
      words : (x f : ℕ) → Live S.allocated x → f < L.words x → (T (ltb f (L.pointers x)) ⊎ T (not (ltb f (L.pointers x)))) →
          H.arena (word_of (L.address x) + f) ≡ ledger_word L x f
      words x f l h (inl b) = rw
          (at_is x l, of_true (ltb f (L.pointers x)) b, ← (R.describes.pointer x f l.0), ← (value_is (S.graph.field x f) (R.invariant.born_closed.step x f (R.invariant.allocated_born x l.1))))
          (R.represents.words.pointer x f l (rw (R.describes.pointers x l.0) (ltb→lt f (L.pointers x) b)))
      words x f l h (inr b) = rw (at_is x l, of_false (ltb f (L.pointers x)) b)
          (R.represents.words.number x f l (rw (R.describes.pointers x l.0) (nltb→le f (L.pointers x) b)) (rw (← (R.describes.words x)) h))

      far : {x y f g : ℕ} → f < Y.words x → g < Y.words y → ((Y.at x + Y.words x ≤ Y.at y) ⊎ (Y.at y + Y.words y ≤ Y.at x)) →
          Y.at x + f ≢ Y.at y + g
      far h k (inl u) = omega arith
      far h k (inr u) = omega arith

      apart : (x y f g : ℕ) → Live S.allocated x → Live S.allocated y → x ≢ y → f < L.words x → g < L.words y →
          Y.at x + f ≢ Y.at y + g
      apart x y f g l m d h k = far (rw (← (R.describes.words x)) h) (rw (← (R.describes.words y)) k)
          (R.represents.placed.apart x y l m d)

  -- what the abstract heap reaches, the ledger reaches
  pub back : {x : ℕ} → Reach S.graph x → (x ≡ 0) ⊎ Reachable L x
  back = closure_in (λ (x : ℕ). (x ≡ 0) ⊎ Reachable L x) root along
    where
      some : (x : ℕ) → (T (eqb x 0) ⊎ T (not (eqb x 0))) → (0 < x → Reachable L x) → (x ≡ 0) ⊎ Reachable L x
      some x (inl e) f = inl (eqb→eq x 0 e)
      some x (inr e) f = inr (f (omega (arith, differ x 0 e)))

      slots_too : (t i : ℕ) → (T (L.opened t) ⊎ T (not (L.opened t))) → (L.slot t i ≡ 0) ⊎ Reachable L (L.slot t i)
      slots_too t i (inl o) = some (L.slot t i) (test (eqb (L.slot t i) 0)) (λ h. stack t i o h)
      slots_too t i (inr o) = inl (rw (← (R.describes.slot t i)) (R.invariant.shape.closed_nil t i (rw (R.describes.opened t) o)))

      root : (x : ℕ) → Root S.graph x → (x ≡ 0) ⊎ Reachable L x
      root _ globals = inl refl
      root _ (in_slot t i) = rw (R.describes.slot t i) (slots_too t i (test (L.opened t)))

      fields : (x f : ℕ) → Reachable L x → (T (ltb f (L.pointers x)) ⊎ T (not (ltb f (L.pointers x)))) →
          (L.pointer x f ≡ 0) ⊎ Reachable L (L.pointer x f)
      fields x f r (inl h) = some (L.pointer x f) (test (eqb (L.pointer x f) 0)) (λ k. field r f (ltb→lt f (L.pointers x) h) k)
      fields x f r (inr h) = let z = (reaches r).0 in inl (rw (← (R.describes.pointer x f z)) (R.invariant.shape.past_pointers x f (rw (R.describes.pointers x z) (nltb→le f (L.pointers x) h))))

      along : (x f : ℕ) → (x ≡ 0) ⊎ Reachable L x → (S.graph.field x f ≡ 0) ⊎ Reachable L (S.graph.field x f)
      along x f (inl e) = rw (e, R.describes.global f) (some (L.global f) (test (eqb (L.global f) 0)) (λ k. global f k))
      along x f (inr r) = rw (R.describes.pointer x f (reaches r).0) (fields x f r (test (ltb f (L.pointers x))))

-- what get answers
pub got : {H : WordHeap} {L : Ledger} {S : State} {Y : Layout} → Agrees H L S Y → (s j f : ℕ) →
    0 < H.slots s j → H.elements.pointers (named H.elements (H.slots s j)) ≤ f → f < H.elements.words (named H.elements (H.slots s j)) →
    H.arena (named H.elements (H.slots s j) + f) ≡ ledger_word L (L.slot s j) f
unfolding ledger_word
got {H} {L} {S} {Y} R s j f z b c =
    let r = slot_record R s j z in
    let p : S.graph.pointers (S.graph.slot s j) ≤ f = rw (r.1, R.represents.placed.pointers (S.graph.slot s j) r.0) at b in
    let q : L.pointers (S.graph.slot s j) ≤ f = rw (R.describes.pointers (S.graph.slot s j) r.0.0) at p in
    rw (← (R.describes.slot s j), r.1, le-ltb f (L.pointers (S.graph.slot s j)) q)
    (R.represents.words.number (S.graph.slot s j) f r.0 p (rw (r.1, R.represents.placed.words (S.graph.slot s j) r.0) at c))

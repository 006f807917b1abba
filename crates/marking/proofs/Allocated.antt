-- There are no more allocated records than allocated bits: records that are allocated have different first words.
use mathlib.Core.Path.{◌≡◌, refl, sym}
use mathlib.Core.Bool.{Bool, true, false, not, cond}
use mathlib.Core.Logic.{◌⊎◌, inl, inr, ◌≢◌}
use Prim.Native.Nat.{ℕ, zero, suc, ◌+◌, ◌≤◌, ◌<◌}
use native.Mathlib.Omega.{arith}
use lib.Dec.{T, eqb}
use Rattle.marking.specs.Updates.{update}
use Rattle.model.proofs.Tests.{is_true}
use Rattle.marking.proofs.Updates.{added_old, added_new, added_only, test, differ, and_left, and_right}
use Rattle.marking.specs.Effect.{as_number}
use Rattle.model.specs.Bounded.{count_below}
use Rattle.marking.specs.Count.{some, count}
use Rattle.marking.proofs.Count.{below_le, below_lt, count_same}
use Rattle.marking.proofs.Operations.{State}
use Rattle.marking.specs.WordHeap.{WordHeap}
use Rattle.marking.proofs.Represents.{Layout, Live}
use Rattle.marking.specs.Ledger.{Ledger}
use Rattle.marking.specs.Claim.{is_allocated}
use Rattle.marking.proofs.Agreement.{Agrees}
use Rattle.marking.proofs.Freed.{is_allocated_is}

module _ {H : WordHeap} {L : Ledger} {S : State} {Y : Layout} (R : Agrees H L S Y) where
  -- the first words of the allocated records below k
  firsts : ℕ → ℕ → Bool
  firsts zero = λ w. false
  firsts (suc k) = cond (some S.allocated k) (update (firsts k) (Y.at k) true) (firsts k)

  First : ℕ → ℕ → Type 0
  First k w = (x : ℕ) × (x < k) × Live S.allocated x × (Y.at x ≡ w)

  some_live : (x : ℕ) → T (some S.allocated x) → Live S.allocated x
  some_live x t = (omega (arith, differ x 0 (and_left (not (eqb x 0)) _ t)), and_right (not (eqb x 0)) _ t)

  first_of : (k w : ℕ) → T (firsts k w) → First k w
  unfolding firsts First
  first_of zero w t = absurd t
  first_of (suc k) w t = go (some S.allocated k) refl t (first_of k w)
    where
      old : First k w → First (suc k) w
      old r = (r.0, omega (arith, r.1), r.2, r.3)

      new : T (some S.allocated k) → ((w ≡ Y.at k) ⊎ T (firsts k w)) → (T (firsts k w) → First k w) → First (suc k) w
      new t (inl e) ih = (k, omega arith, some_live k t, sym e)
      new t (inr u) ih = old (ih u)

      go : (b : Bool) → some S.allocated k ≡ b → T ((cond b (update (firsts k) (Y.at k) true) (firsts k)) w) →
          (T (firsts k w) → First k w) → First (suc k) w
      go true e t ih = new (is_true _ e) (added_only (firsts k) (Y.at k) w t) ih
      go false e t ih = old (ih t)

  module _ (n : ℕ) (below : (w : ℕ) → T (H.allocated w) → w < n) where
    -- two records with one first word are one
    apart : (k x : ℕ) → x < k → Live S.allocated x → Live S.allocated k → Y.at x ≢ Y.at k
    apart k x h l m = go (R.represents.placed.apart x k l m (omega arith))
      where
        go : ((Y.at x + Y.words x ≤ Y.at k) ⊎ (Y.at k + Y.words k ≤ Y.at x)) → Y.at x ≢ Y.at k
        go (inl u) = omega (arith, R.represents.placed.fits x l)
        go (inr u) = omega (arith, R.represents.placed.fits k m)

    counted : (k : ℕ) → count S.allocated k ≤ count_below n (firsts k)
    unfolding count_below firsts First
    counted zero = omega arith
    counted (suc k) = go (some S.allocated k) refl (counted k)
      where
        fresh : Live S.allocated k → (T (firsts k (Y.at k)) ⊎ T (not (firsts k (Y.at k)))) → T (not (firsts k (Y.at k)))
        fresh m (inl t) = let r = first_of k (Y.at k) t in absurd (apart k r.0 r.1 r.2 m r.3)
        fresh m (inr t) = t

        one : Live S.allocated k → count_below n (firsts k) < count_below n (update (firsts k) (Y.at k) true)
        one m = below_lt (firsts k) (update (firsts k) (Y.at k) true) n (Y.at k) (below (Y.at k) (R.represents.placed.on k m))
            (fresh m (test (firsts k (Y.at k))))
            (added_new (firsts k) (Y.at k)) (λ w _. added_old (firsts k) (Y.at k) w)

        go : (b : Bool) → some S.allocated k ≡ b → count S.allocated k ≤ count_below n (firsts k) →
            count S.allocated k + as_number b ≤ count_below n (cond b (update (firsts k) (Y.at k) true) (firsts k))
        go true e h = omega (arith, one (some_live k (is_true _ e)))
        go false e h = omega arith

    -- THE TALLY, where the allocated bits stand below word n
    pub records_bits : count (is_allocated L H) (suc L.count) ≤ count_below n H.allocated
    unfolding First
    records_bits = rw
        (← R.describes.born, count_same (is_allocated L H) S.allocated S.graph.born (λ x z k. is_allocated_is R x z k))
        (omega (arith, counted S.graph.born, below_le (firsts S.graph.born) H.allocated n (λ w _ t. on w (first_of S.graph.born w t))))
      where
        on : (w : ℕ) → First S.graph.born w → T (H.allocated w)
        on w r = rw (← r.3) (R.represents.placed.on r.0 r.2)

-- Laws of counting: fewer pass, as many pass, one more passes; of numbers below a bound (below-..) and of records (count-..).
use mathlib.Core.Path.{◌≡◌}
use mathlib.Core.Bool.{Bool, true, false, not}
use mathlib.Core.Logic.{◌⊎◌, inl, inr}
use Prim.Native.Nat.{ℕ, zero, suc, ◌≤◌, ◌<◌}
use native.Mathlib.Omega.{arith}
use lib.Dec.{T, eqb, eqb→eq}
use Rattle.model.proofs.Tests.{of_true, of_false}
use Rattle.marking.proofs.Updates.{test, differ, and_both, and_left, and_right, and_fails}
use Rattle.model.specs.Bounded.{count_below}
use Rattle.marking.specs.Effect.{as_number}
use Rattle.marking.specs.Count.{some, count}

as_le : (a b : Bool) → (T a → T b) → as_number a ≤ as_number b
as_le true true f = omega arith
as_le true false f = absurd (f tt)
as_le false b f = omega arith

pub below_le : (p q : ℕ → Bool) (n : ℕ) → ((x : ℕ) → x < n → T (p x) → T (q x)) → count_below n p ≤ count_below n q
unfolding count_below
below_le p q zero h = omega arith
below_le p q (suc n) h = omega (arith, below_le p q n (λ x k. h x (omega arith)), as_le (p n) (q n) (h n (omega arith)))

pub below_more : (p : ℕ → Bool) (n k : ℕ) → n ≤ k → count_below n p ≤ count_below k p
unfolding count_below
below_more p n zero h = let e : n ≡ 0 = omega arith in rw e (omega arith)
below_more p n (suc k) h = go (test (eqb n (suc k))) (below_more p n k)
  where
    go : (T (eqb n (suc k)) ⊎ T (not (eqb n (suc k)))) → (n ≤ k → count_below n p ≤ count_below k p) → count_below n p ≤ count_below (suc k) p
    go (inl e) ih = rw (eqb→eq n (suc k) e) (omega arith)
    go (inr e) ih = omega (arith, ih (omega (arith, differ n (suc k) e)))

-- one more passes
pub below_lt : (p q : ℕ → Bool) (n x : ℕ) → x < n → T (not (p x)) → T (q x) → ((y : ℕ) → y < n → T (p y) → T (q y)) → count_below n p < count_below n q
unfolding count_below
below_lt p q zero x k d e h = absurd (omega arith)
below_lt p q (suc n) x k d e h = go (test (eqb x n)) (λ l. below_lt p q n x l d e (λ y v. h y (omega arith)))
  where
    one : (y : ℕ) → y ≡ n → T (not (p y)) → T (q y) → as_number (p n) < as_number (q n)
    one y i v w = rw (← i, of_false (p y) v, of_true (q y) w) (omega arith)

    go : (T (eqb x n) ⊎ T (not (eqb x n))) → (x < n → count_below n p < count_below n q) → count_below (suc n) p < count_below (suc n) q
    go (inl i) ih = omega (arith, below_le p q n (λ y v. h y (omega arith)), one x (eqb→eq x n i) d e)
    go (inr i) ih = omega (arith, ih (omega (arith, differ x n i)), as_le (p n) (q n) (h n (omega arith)))

-- the lowest that passes, if any does
pub find : (p : ℕ → Bool) (n : ℕ) → ((x : ℕ) × (x < n) × T (p x)) ⊎ ((x : ℕ) → x < n → T (not (p x)))
find p zero = inr (λ x h. absurd (omega arith))
find p (suc n) = go (find p n) (test (p n))
  where
    go : (((x : ℕ) × (x < n) × T (p x)) ⊎ ((x : ℕ) → x < n → T (not (p x)))) → (T (p n) ⊎ T (not (p n))) →
        ((x : ℕ) × (x < suc n) × T (p x)) ⊎ ((x : ℕ) → x < suc n → T (not (p x)))
    go (inl r) t = inl (r.0, omega (arith, r.1), r.2)
    go (inr f) (inl t) = inl (n, omega arith, t)
    go (inr f) (inr t) = inr (λ x h. last x h (test (eqb x n)))
      where
        last : (x : ℕ) → x < suc n → (T (eqb x n) ⊎ T (not (eqb x n))) → T (not (p x))
        last x h (inl e) = rw (eqb→eq x n e) t
        last x h (inr e) = f x (omega (arith, differ x n e))

-- records
positive : (x : ℕ) → T (not (eqb x 0)) → 0 < x
positive x t = omega (arith, differ x 0 t)

some_one : (p : ℕ → Bool) (x : ℕ) → 0 < x → T (p x) → T (some p x)
some_one p x h t = go (test (eqb x 0))
  where
    go : (T (eqb x 0) ⊎ T (not (eqb x 0))) → T (some p x)
    go (inl e) = absurd (omega (arith, eqb→eq x 0 e))
    go (inr e) = and_both (not (eqb x 0)) (p x) e t

some_le : (p q : ℕ → Bool) (x : ℕ) → (0 < x → T (p x) → T (q x)) → T (some p x) → T (some q x)
some_le p q x f t =
    and_both (not (eqb x 0)) (q x) (and_left (not (eqb x 0)) (p x) t) (f (positive x (and_left (not (eqb x 0)) (p x) t)) (and_right (not (eqb x 0)) (p x) t))

pub count_le : (p q : ℕ → Bool) (n : ℕ) → ((x : ℕ) → 0 < x → x < n → T (p x) → T (q x)) → count p n ≤ count q n
count_le p q n h = below_le (some p) (some q) n (λ x k. some_le p q x (λ z. h x z k))

pub count_lt : (p q : ℕ → Bool) (n x : ℕ) → 0 < x → x < n → T (not (p x)) → T (q x) → ((y : ℕ) → 0 < y → y < n → T (p y) → T (q y)) →
    count p n < count q n
count_lt p q n x z k d e h = below_lt (some p) (some q) n x k (and_fails (not (eqb x 0)) (p x) d) (some_one q x z e)
    (λ y l. some_le p q y (λ u. h y u l))

-- tests that say the same
pub count_same : (p q : ℕ → Bool) (n : ℕ) → ((x : ℕ) → 0 < x → x < n → p x ≡ q x) → count p n ≡ count q n
count_same p q n h = omega (arith, count_le p q n (λ x z k t. rw (← (h x z k)) t), count_le q p n (λ x z k t. rw (h x z k) t))

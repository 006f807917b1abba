-- Laws of counts: what passes a test and fails another, and a count over the words of a row of elements of one size, where only first words pass.
use Prim.Native.Nat.{ℕ, zero, suc, ◌+◌, ◌-◌, ◌*◌, ◌<◌, ◌≤◌}
use mathlib.Core.Bool.{Bool, true, false, not, cond, ◌&&◌}
use mathlib.Core.Path.{◌≡◌, refl, sym, ◌∙◌, ap}
use native.Mathlib.Nat.{suc-mul, zero-mul, add-zero}
use native.Mathlib.Omega.{arith}
use lib.Dec.{T, eqb}
use borrow.Author.Tests.{ne_eqb}
use Rattle.model.specs.Bounded.{count_below, all_below}
use Rattle.bitmap_range.proofs.Runs.{count_append}

-- none passes
pub count_no : (n : ℕ) (f : ℕ → Bool) → ((k : ℕ) → k < n → f k ≡ false) → count_below n f ≡ 0
unfolding count_below
count_no zero f e = refl
count_no (suc n) f e = rw (count_no n f (λ k l. e k (omega arith)), e n (omega arith))

-- .. exactly if the count is 0
pub none_counted : (n : ℕ) (f : ℕ → Bool) → all_below n (λ k. not (f k)) ≡ eqb (count_below n f) 0
unfolding count_below all_below
none_counted zero f = refl
none_counted (suc n) f = rw (none_counted n f) (go (f n))
  where
    go : (b : Bool) → (eqb (count_below n f) 0 && not b) ≡ eqb (count_below n f + cond b 1 0) 0
    go true = last (eqb (count_below n f) 0) ∙ sym (ne_eqb (count_below n f + 1) 0 (omega arith))
      where
        last : (c : Bool) → (c && false) ≡ false
        last true = refl
        last false = refl
    go false = rw (add-zero (count_below n f)) (same (eqb (count_below n f) 0))
      where
        same : (c : Bool) → (c && true) ≡ c
        same true = refl
        same false = refl

-- what passes f: what passes g besides, where g is the narrower, and what does not
pub count_split : (n : ℕ) (f g : ℕ → Bool) → ((k : ℕ) → k < n → T (g k) → T (f k)) → count_below n f ≡ count_below n (λ k. f k && not (g k)) + count_below n g
unfolding count_below
count_split zero f g e = refl
count_split (suc n) f g e = rw (count_split n f g (λ k l. e k (omega arith))) (go (f n) (g n) (e n (omega arith)))
  where
    go : (a b : Bool) → (T b → T a) →
        count_below n (λ k. f k && not (g k)) + count_below n g + cond a 1 0 ≡ count_below n (λ k. f k && not (g k)) + cond (a && not b) 1 0 + (count_below n g + cond b 1 0)
    go true true h = omega arith
    go true false h = omega arith
    go false true h = absurd (h tt)
    go false false h = omega arith

-- one element: only its first word may pass
count_block : (size : ℕ) (f : ℕ → Bool) → 0 < size → ((j : ℕ) → 0 < j → j < size → f j ≡ false) → count_below size f ≡ cond (f 0) 1 0
count_block size f h e =
    let z : size ≡ 1 + (size - 1) = omega arith in
    ap (λ m. count_below m f) z ∙ count_append 1 (size - 1) f ∙ rw (count_no (size - 1) (λ k. f (1 + k)) (λ k l. e (1 + k) (omega arith) (omega arith))) one
  where
    one : count_below 1 f + 0 ≡ cond (f 0) 1 0
    one = unfold count_below in omega arith

-- m elements
count_blocks : (size m : ℕ) (f : ℕ → Bool) → 0 < size → ((k j : ℕ) → k < m → 0 < j → j < size → f (k * size + j) ≡ false) → count_below (m * size) f ≡ count_below m (λ k. f (k * size))
unfolding count_below
count_blocks size zero f h e = rw zero-mul
count_blocks size (suc m) f h e =
    rw (suc-mul m size) (count_append (m * size) size f
    ∙ rw (count_blocks size m f h (λ k j l. e k j (omega arith)), count_block size (λ j. f (m * size + j)) h (λ j l i. e m j (omega arith) l i), add-zero (m * size)))

-- .. and words behind them, of which none passes
pub count_elements : (n size m : ℕ) (f : ℕ → Bool) → 0 < size → m * size ≤ n → ((k j : ℕ) → k < m → 0 < j → j < size → f (k * size + j) ≡ false) →
    ((i : ℕ) → m * size ≤ i → i < n → f i ≡ false) → count_below n f ≡ count_below m (λ k. f (k * size))
count_elements n size m f h l e r =
    let z : n ≡ m * size + (n - m * size) = omega arith in
    let u = count_append (m * size) (n - m * size) f in
    let v = count_no (n - m * size) (λ k. f (m * size + k)) (λ k q. r (m * size + k) (omega arith) (omega arith)) in
    let w = count_blocks size m f h e in
    ap (λ x. count_below x f) z ∙ omega arith

-- The combinators that carry all definitions: tests, searches, counts and folds over the numbers below a bound, and runs of writes.
-- Their laws are in proofs/Bounded.antt.
use Rattle.std.specs.Prelude.{ℕ, zero, suc, ◌+◌, Bool, true, false, ◌&&◌, not, leb, ltb, if◌then◌else◌}

infix 40 ◌<?◌ ◌≤?◌
infixr 25 ◌implies◌
-- the library's tests, as they are read
abbrev pub ◌<?◌ : ℕ → ℕ → Bool
a <? b = ltb a b

abbrev pub ◌≤?◌ : ℕ → ℕ → Bool
a ≤? b = leb a b

-- where the first test holds, so does the second
unfoldable pub ◌implies◌ : Bool → Bool → Bool
true implies b = b
false implies b = true

-- every number below n passes
unfoldable pub all_below : ℕ → (ℕ → Bool) → Bool
all_below zero t = true
all_below (suc n) t = all_below n t && t n

-- the lowest of the n numbers from k on that passes, or k + n
unfoldable pub first_from : ℕ → ℕ → (ℕ → Bool) → ℕ
first_from zero k t = k
first_from (suc n) k t =
    let later = first_from n (suc k) t in
    if t k then k else later

-- the lowest number below n that passes, or n
unfoldable pub first_below : ℕ → (ℕ → Bool) → ℕ
first_below n t = first_from n 0 t

-- some number below n passes
unfoldable pub some_below : ℕ → (ℕ → Bool) → Bool
some_below n t = not (all_below n (λ k. not (t k)))

-- how many numbers below n pass
unfoldable pub count_below : ℕ → (ℕ → Bool) → ℕ
count_below zero t = 0
count_below (suc n) t = count_below n t + (if t n then 1 else 0)

-- step 0, then step 1, .. step n-1, from start
unfoldable pub fold_below : {A : Type 0} → ℕ → (ℕ → A → A) → A → A
fold_below zero step start = start
fold_below (suc n) step start = step n (fold_below n step start)

-- a run of writes: at each of the n places from `from` on, the value of that place
unfoldable pub write_run : {A Y : Type 0} → (ℕ → Y → A → A) → ℕ → ℕ → (ℕ → Y) → A → A
write_run write from n value a = fold_below n (λ k. write (from + k) (value (from + k))) a

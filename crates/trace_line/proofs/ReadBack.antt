-- What is written reads back: a number as an answer shows it is a number of a line, and reads as itself.
use Prim.Native.Nat.{ℕ, zero, suc, ◌+◌, ◌-◌, ◌*◌, ◌/◌, ◌%◌, ◌^◌, ◌<◌, ◌≤◌}
use mathlib.Core.Bool.{Bool, true, false, cond}
use mathlib.Core.List.{List, [], ◌∷◌, ◌++◌, append_assoc, append-nil}
use mathlib.Core.Path.{◌≡◌, refl, sym, ◌∙◌, ap}
use Rattle.std.proofs.Common.{Some}
use native.Mathlib.Nat.{pow-suc}
use native.Mathlib.Omega.{arith}
use lib.Dec.{ltb}
use borrow.Author.Tests.{ltb-true, ltb-false, lt-ltb, le-leb, ne_eqb}
use Rattle.trace_read.specs.Lines.{before, ended, is_digit, digits, number, numbers_of}
use Rattle.trace_write.specs.Text.{decimal_in, decimal, spaced}

-- the byte of a digit
is_digit_lem : (d : ℕ) → d < 10 → is_digit (48 + d) ≡ true
is_digit_lem d h = rw (le-leb 48 (48 + d) (omega arith), le-leb (48 + d) 57 (omega arith))

value : (d : ℕ) → 48 + d - 48 ≡ d
value d = omega arith

-- a number's digits, whatever follows them
back : (k n : ℕ) (rest : List ℕ) → n < 10 ^ suc k → number (decimal_in (suc k) n ++ rest) ≡ digits n rest
unfolding decimal_in digits
back zero n rest h = rw (lt-ltb n 10 (omega arith), is_digit_lem n (omega arith), value n)
back (suc k) n rest h = go (ltb n 10) refl (λ l. back k (n / 10) ((48 + n % 10) ∷ rest) (omega (arith, rw (pow-suc 10 (suc k)) at h)))
  where
    go : (p : Bool) → ltb n 10 ≡ p → (10 ≤ n → number (decimal_in (suc k) (n / 10) ++ ((48 + n % 10) ∷ rest)) ≡ digits (n / 10) ((48 + n % 10) ∷ rest)) →
        number (cond p ((48 + n) ∷ []) (decimal_in (suc k) (n / 10) ++ ((48 + n % 10) ∷ [])) ++ rest) ≡ digits n rest
    go true e f = let l : n < 10 = ltb-true n 10 e in rw (is_digit_lem n l, value n)
    go false e f =
        let l : 10 ≤ n = ltb-false n 10 e in
        let z : n / 10 * 10 + (48 + n % 10 - 48) ≡ n = omega arith in
        rw append_assoc (f l ∙ rw (is_digit_lem (n % 10) (omega arith), ne_eqb (n / 10) 0 (λ q. omega arith), z))

pub reads_back : (n : ℕ) → n < 2 ^ 64 → numbers_of (spaced n) ≡ Some (n ∷ [])
unfolding numbers_of decimal ended before digits
reads_back n h = ap number (sym (append-nil (decimal_in 20 n))) ∙ back 19 n [] (omega arith) ∙ rw (lt-ltb n (2 ^ 64) h)

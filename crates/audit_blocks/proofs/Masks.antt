-- Bits of masks as tests, and a word that is 0 as a test of all its bits.
use Prim.Native.Nat.{ℕ, zero, suc, ◌-◌, ◌*◌, ◌/◌, ◌%◌, ◌^◌, ◌<◌, min, max}
use mathlib.Core.Bool.{Bool, true, false, not, cond, ◌&&◌, ◌||◌}
use mathlib.Core.Path.{◌≡◌, refl}
use native.Mathlib.Omega.{arith}
use lib.Bits.{bit_or, bit_and, and_le_l}
use lib.Dec.{T, eqb, eqb-suc-zero}
use borrow.Author.Tests.{eq-eqb, ne_eqb, eqb-true, eqb-false}
use Rattle.model.specs.Bounded.{◌implies◌, all_below}
use Rattle.model.specs.Bitmaps.{bit_of}
use Rattle.model.proofs.Bitmaps.{bit_zero, bit_suc, bit_below, bit_or_lem, bit_and_lem, bit_not, bit_none, bit_mod, word_ext}
use Rattle.model.proofs.Tests.{same_test, of_false, eqb_iff}
use Rattle.model.proofs.Bounded.{all_iff}
use Rattle.audit_blocks.specs.Block.{on}

pub on_or : (a b j : ℕ) → on (bit_or a b) j ≡ (on a j || on b j)
on_or a b j = rw bit_or_lem (go (eqb (bit_of a j) 1) refl)
  where
    go : (c : Bool) → eqb (bit_of a j) 1 ≡ c → eqb (max (bit_of a j) (bit_of b j)) 1 ≡ (c || eqb (bit_of b j) 1)
    go true p = eq-eqb (max (bit_of a j) (bit_of b j)) 1 (omega (arith, eqb-true (bit_of a j) 1 p, bit_below b j))
    go false p =
        let e : max (bit_of a j) (bit_of b j) ≡ bit_of b j = omega (arith, eqb-false (bit_of a j) 1 p, bit_below a j) in
        rw e

pub on_and : (a b j : ℕ) → on (bit_and a b) j ≡ (on a j && on b j)
on_and a b j = rw bit_and_lem (go (eqb (bit_of a j) 1) refl)
  where
    go : (c : Bool) → eqb (bit_of a j) 1 ≡ c → eqb (min (bit_of a j) (bit_of b j)) 1 ≡ (c && eqb (bit_of b j) 1)
    go true p =
        let e : min (bit_of a j) (bit_of b j) ≡ bit_of b j = omega (arith, eqb-true (bit_of a j) 1 p, bit_below b j) in
        rw e
    go false p = ne_eqb (min (bit_of a j) (bit_of b j)) 1 (λ q. eqb-false (bit_of a j) 1 p (omega (arith, bit_below a j)))

pub on_not : (a j : ℕ) → a < 2 ^ 64 → j < 64 → on ((2 ^ 64 - 1) - a) j ≡ not (on a j)
on_not a j h l = rw (bit_not 64 a j h l) (go (eqb (bit_of a j) 1) refl)
  where
    go : (c : Bool) → eqb (bit_of a j) 1 ≡ c → eqb (1 - bit_of a j) 1 ≡ not c
    go true p = ne_eqb (1 - bit_of a j) 1 (omega (arith, eqb-true (bit_of a j) 1 p))
    go false p = eq-eqb (1 - bit_of a j) 1 (omega (arith, eqb-false (bit_of a j) 1 p, bit_below a j))

-- a word shifted up by one bit
pub on_shift : (a j : ℕ) → j < 64 → on (a * 2 ^ 1 % 2 ^ 64) j ≡ cond (eqb j 0) false (on a (j - 1))
on_shift a j l = rw (bit_mod (a * 2 ^ 1) 64 j l) (shifted j)
  where
    shifted : (j : ℕ) → on (a * 2 ^ 1) j ≡ cond (eqb j 0) false (on a (j - 1))
    shifted zero = rw (bit_zero) (ne_eqb (a * 2 ^ 1 % 2) 1 (omega arith))
    shifted (suc j) =
        let e : a * 2 ^ 1 / 2 ≡ a = omega arith in
        let i : suc j - 1 ≡ j = omega arith in
        rw (eqb-suc-zero, bit_suc, e, i)

-- a word is 0 where none of its bits is on
pub zero_word : (x : ℕ) → x < 2 ^ 64 → eqb x 0 ≡ all_below 64 (λ j. not (on x j))
zero_word x h = same_test (eqb x 0) (all_below 64 (λ j. not (on x j))) none all
  where
    none : T (eqb x 0) → T (all_below 64 (λ j. not (on x j)))
    none t = let e : x ≡ 0 = (eqb_iff x 0).0 t in rw e ((all_iff 64 (λ j. not (on 0 j))).1 (λ j l. rw (bit_none j) tt))

    all : T (all_below 64 (λ j. not (on x j))) → T (eqb x 0)
    all t = (eqb_iff x 0).1 (word_ext 64 x 0 h (lib.Dec.lit< tt) (λ j l. off j (of_false (on x j) ((all_iff 64 (λ j. not (on x j))).0 t j l))))
      where
        off : (j : ℕ) → on x j ≡ false → bit_of x j ≡ bit_of 0 j
        off j p = rw (bit_none j) (omega (arith, eqb-false (bit_of x j) 1 p, bit_below x j))

-- a mask of a word is a word
pub masked_fits : (x y : ℕ) → x < 2 ^ 64 → bit_and x y < 2 ^ 64
masked_fits x y h = omega (arith, and_le_l x y)

-- no bit of x but where y has one
pub not_and_not : (x y : Bool) → not (x && not y) ≡ (x implies y)
unfolding ◌implies◌
not_and_not true true = refl
not_and_not true false = refl
not_and_not false y = refl

pub not_or : (x y : Bool) → not (x || y) ≡ (not x && not y)
not_or true y = refl
not_or false y = refl

-- tests that agree below n
pub all_cong : (n : ℕ) (s t : ℕ → Bool) → ((k : ℕ) → k < n → s k ≡ t k) → all_below n s ≡ all_below n t
all_cong n s t f =
    same_test (all_below n s) (all_below n t) (λ x. (all_iff n t).1 (λ k l. rw (f k l) at ((all_iff n s).0 x k l))) (λ x. (all_iff n s).1 (λ k l. rw (f k l) ((all_iff n t).0 x k l)))

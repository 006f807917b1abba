-- Laws of the bits of a word: one bit moved up, and where the trailing zeros end.
use Prim.Native.Nat.{ℕ, zero, suc, ◌*◌, ◌/◌, ◌%◌, ◌^◌, ◌<◌}
use mathlib.Core.Bool.{false}
use mathlib.Core.Logic.{◌≢◌}
use mathlib.Core.Path.{◌≡◌}
use native.Mathlib.Nat.{one-mul}
use native.Mathlib.Omega.{arith}
use lib.Count.{count_trailing_zeros, under}
use lib.Dec.{eqb, lit<}
use lib.Pow.{shl_exact}
use Rattle.std.proofs.lemmas.Nat.Bits.{bit_at-trailing_zeros}
use mir.Syntax.{w64}
use Rattle.model.specs.Bitmaps.{bit_of}
use Rattle.model.proofs.Bitmaps.{bit_zero, bit_suc}
use Rattle.model.proofs.Bounded.{First}

-- bit k alone, as a word of 64 bits
pub one_up : (k : ℕ) → k < 64 → 1 * 2 ^ k % 2 ^ 64 ≡ 2 ^ k
one_up k h = rw (shl_exact 1 k 64 (lit< tt) (omega arith), one-mul)

-- the trailing zeros of a word of n bits end at its lowest set bit
pub trailing_first : (n w : ℕ) → First n (λ k. eqb (bit_of w k) 1) (count_trailing_zeros n w)
unfolding count_trailing_zeros
trailing_first zero w = record { within = omega arith; before = λ k l. absurd (omega arith); holds = λ l. absurd (omega arith) }
trailing_first (suc n) w = go (w % 2) (bit_zero w) (omega arith) (trailing_first n (w / 2))
  where
    go : (b : ℕ) → bit_of w 0 ≡ b → b < 2 → {z : ℕ} → First n (λ k. eqb (bit_of (w / 2) k) 1) z → First (suc n) (λ k. eqb (bit_of w k) 1) (under b z)
    go zero e l {z} f = record { within = omega (arith, f.within); before = later; holds = λ m. rw bit_suc (f.holds (omega arith)) }
      where
        later : (k : ℕ) → k < suc z → eqb (bit_of w k) 1 ≡ false
        later zero m = rw e
        later (suc k) m = rw bit_suc (f.before k (omega arith))
    go (suc zero) e l f = record { within = omega arith; before = λ k m. absurd (omega arith); holds = λ m. rw e }
    go (suc (suc b)) e l f = absurd (omega arith)

-- .. which is there where the word is not 0
pub trailing_some : (w : ℕ) → w < 2 ^ 64 → w ≢ 0 → count_trailing_zeros 64 w < 64
trailing_some w h d = (bit_at-trailing_zeros w64 w (omega arith) h).0

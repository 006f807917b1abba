-- A search through a list of words for the lowest bit that passes a test: what the trailing zeros of a word say, once the word has a bit set
-- exactly where a bit of the list passes.
use Prim.Native.Nat.{ℕ, zero, suc, ◌+◌, ◌-◌, ◌*◌, ◌/◌, ◌%◌, ◌^◌, ◌<◌, ◌≤◌, min}
use mathlib.Core.Bool.{Bool, true, false, cond, not, ◌&&◌, true≢false}
use mathlib.Core.List.{List}
use mathlib.Core.Path.{◌≡◌, refl, sym, ◌∙◌, ap}
use native.Mathlib.Omega.{arith}
use lib.Bits.{bit_and}
use lib.Count.{count_trailing_zeros}
use lib.Dec.{eqb, ltb}
use lib.ListN.{get_or}
use borrow.Author.Tests.{ltb-true, ltb-false}
use Rattle.model.specs.Bitmaps.{bit_of, bit_at}
use Rattle.model.proofs.Bitmaps.{bit_below, bit_and_lem, bit_not}
use Rattle.model.proofs.Bounded.{First}
use Rattle.bitmap.proofs.Bits.{trailing_first}

-- word number `at` of the bits t is w
abbrev pub WordOf : ℕ → (ℕ → Bool) → ℕ → Type 0
WordOf at t w = (j : ℕ) → j < 64 → bit_of w j ≡ cond (t (at * 64 + j)) 1 0

pub word_at : (ws : List ℕ) (at : ℕ) → WordOf at (bit_at ws) (get_or ws at 0)
unfolding bit_at
word_at ws at j h =
    let d : (at * 64 + j) / 64 ≡ at = omega arith in
    let m : (at * 64 + j) % 64 ≡ j = omega arith in
    rw (d, m) (go (bit_of (get_or ws at 0) j) (bit_below _ _))
  where
    go : (b : ℕ) → b < 2 → b ≡ cond (eqb b 1) 1 0
    go zero l = refl
    go (suc zero) l = refl
    go (suc (suc b)) l = absurd (omega arith)

pub word_not : (at : ℕ) (t : ℕ → Bool) (w : ℕ) → w < 2 ^ 64 → WordOf at t w → WordOf at (λ b. not (t b)) ((2 ^ 64 - 1) - w)
word_not at t w h f j l = rw (bit_not 64 w j h l, f j l) (go (t (at * 64 + j)))
  where
    go : (b : Bool) → 1 - cond b 1 0 ≡ cond (not b) 1 0
    go true = refl
    go false = refl

pub word_and : (at : ℕ) (s t : ℕ → Bool) (v w : ℕ) → WordOf at s v → WordOf at t w → WordOf at (λ b. s b && t b) (bit_and v w)
word_and at s t v w f g j l = rw (bit_and_lem, f j l, g j l) (go (s (at * 64 + j)) (t (at * 64 + j)))
  where
    go : (b c : Bool) → min (cond b 1 0) (cond c 1 0) ≡ cond (b && c) 1 0
    go true true = refl
    go true false = refl
    go false true = refl
    go false false = refl

-- no bit below b passes
abbrev pub None : (ℕ → Bool) → ℕ → Type 0
None t b = (i : ℕ) → i < b → t i ≡ false

-- z bits of word number `at` were passed, and the next one passes, unless the word is at its end
pub record Passed (t : ℕ → Bool) (at z : ℕ) : Type 0 where
  pub cap : z ≤ 64
  pub none : None t (at * 64 + z)
  pub holds : z < 64 → t (at * 64 + z) ≡ true

pub scan_word : (t : ℕ → Bool) (at w : ℕ) → WordOf at t w → None t (at * 64) → Passed t at (count_trailing_zeros 64 w)
scan_word t at w f n = record { cap = p.within; none = λ i l. go i l (ltb i (at * 64)) refl; holds = λ l. sym (same _ l) ∙ p.holds l }
  where
    p : First 64 (λ k. eqb (bit_of w k) 1) (count_trailing_zeros 64 w)
    p = trailing_first 64 w

    one : (b : Bool) → eqb (cond b 1 0) 1 ≡ b
    one true = refl
    one false = refl

    same : (j : ℕ) → j < 64 → eqb (bit_of w j) 1 ≡ t (at * 64 + j)
    same j l = rw (f j l) (one (t (at * 64 + j)))

    go : (i : ℕ) → i < at * 64 + count_trailing_zeros 64 w → (b : Bool) → ltb i (at * 64) ≡ b → t i ≡ false
    go i l true q = n i (ltb-true i (at * 64) q)
    go i l false q =
        let m : at * 64 ≤ i = ltb-false i (at * 64) q in
        let e : i ≡ at * 64 + (i - at * 64) = omega arith in
        ap t e ∙ sym (same (i - at * 64) (omega (arith, p.within))) ∙ p.before (i - at * 64) (omega arith)

-- a word with no bit that passes
pub whole_word : {t : ℕ → Bool} {at z : ℕ} → Passed t at z → 64 ≤ z → None t ((at + 1) * 64)
whole_word p h i l = p.none i (omega arith)

pub both : (a b : Bool) → (a && b) ≡ true → (a ≡ true) × (b ≡ true)
both true b e = (refl, e)
both false b e = absurd (true≢false (sym e))

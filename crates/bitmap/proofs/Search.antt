-- The search for the lowest bit that passes a test, from a bit on: the masks of its words, and what it answers. `first_set` asks for a set bit and masks its first word alone; the
-- searches of crate bitmap_search have tests of their own.
use Prim.Native.Nat.{ℕ, ◌+◌, ◌-◌, ◌*◌, ◌/◌, ◌%◌, ◌^◌, ◌<◌, ◌≤◌}
use mathlib.Core.Bool.{Bool, true, false, cond, ◌&&◌, and-true, and-false}
use mathlib.Core.List.{List}
use mathlib.Core.Path.{◌≡◌, refl, sym, ◌∙◌}
use native.Mathlib.Omega.{arith}
use lib.Bits.{bit_and}
use lib.Count.{count_trailing_zeros}
use lib.Dec.{leb, ltb}
use lib.ListN.{get_or}
use borrow.Author.Tests.{leb-true, leb-false, le-leb, lt-leb, ltb-true, ltb-false}
use Rattle.model.specs.Bitmaps.{bit_of, bit_at}
use Rattle.model.proofs.Bitmaps.{bit_shifted, bit_all, bit_none}
use Rattle.std.specs.Prelude.{Option, None as nothing}
use Rattle.std.specs.Bool.{then_some}
use Rattle.bitmap.specs.Search.{Zeros, found}
use Rattle.bitmap.proofs.Found.{found_first, found_nothing}
use Rattle.bitmap.proofs.Scan.{WordOf, None, Passed, word_at, word_and, scan_word, both}

-- the mask has the bits from `from` on in word number `at`, which is the word of `from` or one after it
pub record Masked (from at mask : ℕ) : Type 0 where
  pub begun : from / 64 ≤ at
  pub word : WordOf at (leb from) mask

pub masked_first : (from : ℕ) → Masked from (from / 64) ((2 ^ 64 - 1) * 2 ^ (from % 64) % 2 ^ 64)
masked_first from = record { begun = omega arith; word = λ j l. rw (bit_shifted (2 ^ 64 - 1) 64 (from % 64) j l) (go j l (leb (from % 64) j) refl) }
  where
    go : (j : ℕ) → j < 64 → (b : Bool) → leb (from % 64) j ≡ b → cond b (bit_of (2 ^ 64 - 1) (j - from % 64)) 0 ≡ cond (leb from (from / 64 * 64 + j)) 1 0
    go j l true p = rw (bit_all 64 (j - from % 64) (omega arith), le-leb from (from / 64 * 64 + j) (omega (arith, leb-true (from % 64) j p)))
    go j l false p = rw (lt-leb from (from / 64 * 64 + j) (omega (arith, leb-false (from % 64) j p)))

pub masked_next : {from at mask : ℕ} → Masked from at mask → Masked from (at + 1) (2 ^ 64 - 1)
masked_next {from} {at} m =
    record { begun = omega (arith, m.begun); word = λ j l. rw (bit_all 64 j l, le-leb from ((at + 1) * 64 + j) (omega (arith, m.begun))) }

-- bit b passes, and is `from` or one after it
abbrev pub pass_from : (ℕ → Bool) → ℕ → ℕ → Bool
pass_from t from b = t b && leb from b

pub none_passed : (t : ℕ → Bool) (from : ℕ) → None (pass_from t from) (from / 64 * 64)
none_passed t from i l = rw (lt-leb from i (omega arith)) (and-false (t i))

-- one word w of the bits that pass, masked
pub scan_from : (t : ℕ → Bool) (w : ℕ) {from at mask : ℕ} → WordOf at t w → Masked from at mask → None (pass_from t from) (at * 64) →
    Passed (pass_from t from) at (count_trailing_zeros 64 (bit_and w mask))
scan_from t w {from} {at} {mask} f m n = scan_word (pass_from t from) at _ (word_and at t (leb from) w mask f m.word) n

-- .. where the set bits pass
pub scan_set : (ws : List ℕ) {from at mask : ℕ} → Masked from at mask → None (pass_from (bit_at ws) from) (at * 64) →
    Passed (pass_from (bit_at ws) from) at (count_trailing_zeros 64 (bit_and (get_or ws at 0) mask))
scan_set ws {from} {at} m n = scan_from (bit_at ws) (get_or ws at 0) (word_at ws at) m n

-- a word after that of `from` needs no mask, and has no set bit where it is 0
pub scan_later : (ws : List ℕ) {from at : ℕ} → from ≤ at * 64 → None (pass_from (bit_at ws) from) (at * 64) → Passed (pass_from (bit_at ws) from) at (count_trailing_zeros 64 (get_or ws at 0))
scan_later ws {from} {at} h n =
    scan_word (pass_from (bit_at ws) from) at _ (λ j l. rw (le-leb from (at * 64 + j) (omega arith), and-true (bit_at ws (at * 64 + j))) (word_at ws at j l)) n

zero_bit : (ws : List ℕ) (i : ℕ) → get_or ws (i / 64) 0 ≡ 0 → bit_at ws i ≡ false
unfolding bit_at
zero_bit ws i e = rw (e, bit_none (i % 64))

pub none_later : (ws : List ℕ) (from : ℕ) {at next : ℕ} → None (pass_from (bit_at ws) from) (at * 64) → Zeros ws at next → None (pass_from (bit_at ws) from) (next * 64)
none_later ws from {at} {next} n z i l = go (ltb i (at * 64)) refl
  where
    go : (b : Bool) → ltb i (at * 64) ≡ b → pass_from (bit_at ws) from i ≡ false
    go true p = n i (ltb-true i (at * 64) p)
    go false p = rw (zero_bit ws i (z (i / 64) (omega (arith, ltb-false i (at * 64) p)) (omega arith)))

module _ (t : ℕ → Bool) (from to : ℕ) (h : from ≤ to) where
  abbrev first_passing : Option ℕ
  first_passing = found from (to - from) (λ k. t (from + k))

  -- no bit below b passes
  module _ (b : ℕ) (n : None (pass_from t from) b) where
    before : (k : ℕ) → from + k < b → t (from + k) ≡ false
    before k l = sym (and-true (t (from + k))) ∙ (rw (le-leb from (from + k) (omega arith)) at (n (from + k) l))

    pub none_found : to ≤ b → nothing ≡ first_passing
    none_found l = found_nothing from (to - from) _ (record { within = omega arith; before = λ k m. before k (omega arith); holds = λ m. absurd (omega arith) })

    some_found : from ≤ b → t b ≡ true → then_some (ltb b to) b ≡ first_passing
    some_found l e = go (ltb b to) refl
      where
        there : from + (b - from) ≡ b
        there = omega arith

        go : (c : Bool) → ltb b to ≡ c → then_some c b ≡ first_passing
        go true p =
            rw there at (found_first from (to - from) _ (b - from) (record { within = omega (arith, ltb-true b to p); before = λ k m. before k (omega arith); holds = λ m. rw there e }) (omega (arith, ltb-true b to p)))
        go false p = none_found (ltb-false b to p)

  pub found_bit : {at z : ℕ} → Passed (pass_from t from) at z → z < 64 → then_some (ltb (at * 64 + z) to) (at * 64 + z) ≡ first_passing
  found_bit {at} {z} p l =
      let e = both (t (at * 64 + z)) (leb from (at * 64 + z)) (p.holds l) in
      some_found (at * 64 + z) p.none (leb-true from (at * 64 + z) e.1) e.0

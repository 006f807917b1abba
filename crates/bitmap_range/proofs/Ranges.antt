-- Laws of ranges of bits as the code sets them: a mask over one word, words that are all bits or none, words that are copied and moved, and
-- a range taken apart at the ends of words.
use Prim.Native.Nat.{ℕ, ◌+◌, ◌-◌, ◌*◌, ◌/◌, ◌%◌, ◌^◌, ◌<◌, ◌≤◌, min, max}
use mathlib.Core.Bool.{Bool, true, false, cond, ◌&&◌}
use mathlib.Core.List.{List}
use mathlib.Core.Path.{◌≡◌, refl, sym, ◌∙◌, ap}
use native.Mathlib.Omega.{arith}
use native.Mathlib.Nat.{lt_of_lt_of_le, lt_of_le_of_lt}
use lib.ListN.{get_or, set, length}
use lib.Bits.{bit_or, bit_and, or_lt, and_le_l}
use lib.Pow.{pow_mono, shl_lt, shl_exact, ones_lt, ones_split, high}
use lib.Dec.{eqb, ltb, leb}
use borrow.Author.Tests.{ltb-true, ltb-false, leb-true, le-leb, ne_eqb, eqb-true, eqb-false, eq-eqb}
use Rattle.model.specs.Bounded.{write_run}
use Rattle.model.specs.Memory.{put_words}
use Rattle.model.specs.Bitmaps.{bit_of, with_bit_of, bit_at, with_bit}
use Rattle.model.proofs.Bounded.{within}
use Rattle.model.proofs.Bitmaps.{bit_below, bit_or_lem, bit_and_lem, bit_none, bit_not, bit_up, bit_all}
use Rattle.bitmap_range.proofs.Runs.{run_append, writes_cong}
use Rattle.bitmap_range.proofs.Bits.{Fit, words_same, bit_high, word_run_fits, word_run_at, bits_length, bits_fit, run_in_word, words_as_bits}

-- masks

-- the word whose n bits from bit b on are on
abbrev pub mask_of : ℕ → ℕ → ℕ
mask_of b n = (2 ^ n - 1) * 2 ^ b

pub mask_fits : (b n : ℕ) → b + n ≤ 64 → mask_of b n < 2 ^ 64
mask_fits b n h = let l : n + b ≤ 64 = omega arith in lt_of_lt_of_le (shl_lt n b (ones_lt n)) (pow_mono l)

-- all bits, shifted down to n of them and up to bit b
pub mask_shifted : (b n : ℕ) → b + n ≤ 64 → ((2 ^ 64 - 1) / 2 ^ (64 - n) * 2 ^ b) % 2 ^ 64 ≡ mask_of b n
mask_shifted b n h =
    let e : n + (64 - n) ≡ 64 = omega arith in
    let down : (2 ^ 64 - 1) / 2 ^ (64 - n) ≡ 2 ^ n - 1 =
    ap (λ x. (2 ^ x - 1) / 2 ^ (64 - n)) (sym e) ∙ ap (λ x. x / 2 ^ (64 - n)) (ones_split n (64 - n)) ∙ high (2 ^ n - 1) (64 - n) (ones_lt (64 - n)) in
    rw down (shl_exact n b 64 (ones_lt n) (omega arith))

pub mask_at : (b n k : ℕ) → eqb (bit_of (mask_of b n) k) 1 ≡ within b n k
mask_at b n k = go (leb b k) refl (ltb k (b + n)) refl
  where
    above : b ≤ k → bit_of (mask_of b n) k ≡ bit_of (2 ^ n - 1) (k - b)
    above h = rw (bit_up (2 ^ n - 1) b k, le-leb b k h)

    go : (p : Bool) → leb b k ≡ p → (q : Bool) → ltb k (b + n) ≡ q → eqb (bit_of (mask_of b n) k) 1 ≡ (p && q)
    go true e true f =
        let h : b ≤ k = leb-true b k e in
        let l : k - b < n = omega (arith, ltb-true k (b + n) f) in
        eq-eqb _ _ (above h ∙ bit_all n (k - b) l)
    go true e false f =
        let h : b ≤ k = leb-true b k e in
        rw (above h, bit_high n (2 ^ n - 1) (k - b) (ones_lt n) (omega (arith, ltb-false k (b + n) f)))
    go false e q f = rw (bit_up (2 ^ n - 1) b k, e)

-- a word with a mask put over it, or taken away, is the word after the run of the mask's bits
pub put_mask : (on : Bool) (b n w : ℕ) → b + n ≤ 64 → w < 2 ^ 64 →
    cond on (bit_or w (mask_of b n)) (bit_and w ((2 ^ 64 - 1) - mask_of b n)) ≡ write_run with_bit_of b n (λ k. on) w
put_mask true b n w h f =
    words_same _ _ (or_lt 64 w (mask_of b n) f (mask_fits b n h)) (word_run_fits b n (λ k. true) w h f) (λ k l.
    rw (bit_or_lem w (mask_of b n) k, word_run_at b n (λ k. true) w h f k, ← mask_at b n k) (go (bit_of w k) (bit_of (mask_of b n) k) (bit_below _ _) (bit_below _ _)))
  where
    go : (x y : ℕ) → x < 2 → y < 2 → eqb (max x y) 1 ≡ cond (eqb y 1) true (eqb x 1)
    go x y h l = by (eqb y 1) refl
      where
        by : (p : Bool) → eqb y 1 ≡ p → eqb (max x y) 1 ≡ cond p true (eqb x 1)
        by true e = eq-eqb (max x y) 1 (omega (arith, eqb-true y 1 e))
        by false e = let z : max x y ≡ x = omega (arith, eqb-false y 1 e) in rw z
put_mask false b n w h f =
    words_same _ _ (lt_of_le_of_lt (and_le_l w ((2 ^ 64 - 1) - mask_of b n)) f) (word_run_fits b n (λ k. false) w h f) (λ k l.
    rw (bit_and_lem w ((2 ^ 64 - 1) - mask_of b n) k, bit_not 64 (mask_of b n) k (mask_fits b n h) l, word_run_at b n (λ k. false) w h f k, ← mask_at b n k)
    (go (bit_of w k) (bit_of (mask_of b n) k) (bit_below _ _) (bit_below _ _)))
  where
    go : (x y : ℕ) → x < 2 → y < 2 → eqb (min x (1 - y)) 1 ≡ cond (eqb y 1) false (eqb x 1)
    go x y h l = by (eqb y 1) refl
      where
        by : (p : Bool) → eqb y 1 ≡ p → eqb (min x (1 - y)) 1 ≡ cond p false (eqb x 1)
        by true e = ne_eqb (min x (1 - y)) 1 (λ q. absurd (omega (arith, eqb-true y 1 e)))
        by false e = let z : min x (1 - y) ≡ x = omega (arith, eqb-false y 1 e) in rw z

-- runs of words

-- a run of words that are all bits or none
pub fill_bits : (on : Bool) (a n : ℕ) (ws : List ℕ) → a + n ≤ length ws → Fit ws →
    put_words a n (λ i. cond on (2 ^ 64 - 1) 0) ws ≡ write_run with_bit (a * 64) (n * 64) (λ i. on) ws
fill_bits on a n ws h f =
    words_as_bits a n (λ i. cond on (2 ^ 64 - 1) 0) ws h f (λ x l m. fits on)
    ∙ writes_cong with_bit (a * 64) (n * 64) (λ i. eqb (bit_of (cond on (2 ^ 64 - 1) 0) (i % 64)) 1) (λ i. on) ws (λ i l m. bits on (i % 64) (omega arith))
  where
    fits : (b : Bool) → cond b (2 ^ 64 - 1) 0 < 2 ^ 64
    fits true = omega arith
    fits false = omega arith

    bits : (b : Bool) (k : ℕ) → k < 64 → eqb (bit_of (cond b (2 ^ 64 - 1) 0) k) 1 ≡ b
    bits true k l = rw (bit_all 64 k l)
    bits false k l = rw (bit_none k)

-- a run of words that are copied
pub copy_bits : (to from n : ℕ) (ws : List ℕ) → to + n ≤ length ws → Fit ws →
    put_words to n (λ i. get_or ws (i - to + from) 0) ws ≡ write_run with_bit (to * 64) (n * 64) (λ i. bit_at ws (i - to * 64 + from * 64)) ws
unfolding bit_at
copy_bits to from n ws h f =
    words_as_bits to n (λ i. get_or ws (i - to + from) 0) ws h f (λ x l m. f (x - to + from))
    ∙ writes_cong with_bit (to * 64) (n * 64) _ _ ws (λ i l m.
    let e : (i - to * 64 + from * 64) / 64 ≡ i / 64 - to + from = omega arith in
    let r : (i - to * 64 + from * 64) % 64 ≡ i % 64 = omega arith in
    rw (e, r))

-- words that are moved: copied, and then gone where they were
pub move_bits : (to from n : ℕ) (ws : List ℕ) → to + n ≤ from → from + n ≤ length ws → Fit ws →
    put_words from n (λ i. 0) (put_words to n (λ i. get_or ws (i - to + from) 0) ws)
    ≡ write_run with_bit (from * 64) (n * 64) (λ i. false) (write_run with_bit (to * 64) (n * 64) (λ i. bit_at ws (i - to * 64 + from * 64)) ws)
move_bits to from n ws h l f =
    let value : ℕ → Bool = λ i. bit_at ws (i - to * 64 + from * 64) in
    let room : to * 64 + n * 64 ≤ 64 * length ws = omega arith in
    let copied = write_run with_bit (to * 64) (n * 64) value ws in
    ap (put_words from n (λ i. 0)) (copy_bits to from n ws (omega arith) f)
    ∙ fill_bits false from n copied (rw (bits_length (to * 64) (n * 64) value ws room) l) (bits_fit (to * 64) (n * 64) value ws room f)

-- a run that goes on, inside word x
pub run_into_word : (b m x low k : ℕ) (on : Bool) (ws : List ℕ) → b + m ≡ x * 64 + low → low + k ≤ 64 → b + (m + k) ≤ 64 * length ws → 0 < k →
    (let done = write_run with_bit b m (λ i. on) ws in
    set done x (write_run with_bit_of low k (λ j. on) (get_or done x 0)) ≡ write_run with_bit b (m + k) (λ i. on) ws)
run_into_word b m x low k on ws e h l p =
    let done = write_run with_bit b m (λ i. on) ws in
    let long : length done ≡ length ws = bits_length b m (λ i. on) ws (omega arith) in
    sym (run_append with_bit b m k (λ i. on) ws ∙ rw e (run_in_word x low k (λ i. on) done (omega (arith, long)) h))

-- a run of bits from bit b on that ends in b's word, and one that goes on after it
pub run_in_first : (b k : ℕ) (on : Bool) (ws : List ℕ) → b / 64 < length ws → b % 64 + k ≤ 64 →
    set ws (b / 64) (write_run with_bit_of (b % 64) k (λ j. on) (get_or ws (b / 64) 0)) ≡ write_run with_bit b k (λ i. on) ws
run_in_first b k on ws h l =
    let e : b ≡ b / 64 * 64 + b % 64 = omega arith in
    sym (ap (λ x. write_run with_bit x k (λ i. on) ws) e ∙ run_in_word (b / 64) (b % 64) k (λ i. on) ws h l)

pub run_past_first : (b n : ℕ) (on : Bool) (ws : List ℕ) → b / 64 < length ws → 64 - b % 64 < n →
    write_run with_bit ((b / 64 + 1) * 64) (n - (64 - b % 64)) (λ i. on)
    (set ws (b / 64) (write_run with_bit_of (b % 64) (64 - b % 64) (λ j. on) (get_or ws (b / 64) 0)))
    ≡ write_run with_bit b n (λ i. on) ws
run_past_first b n on ws h l =
    let room = 64 - b % 64 in
    let next : b + room ≡ (b / 64 + 1) * 64 = omega arith in
    let all : room + (n - room) ≡ n = omega arith in
    rw (run_in_first b room on ws h (omega arith), ← next) (sym (run_append with_bit b room (n - room) (λ i. on) ws) ∙ ap (λ m. write_run with_bit b m (λ i. on) ws) all)

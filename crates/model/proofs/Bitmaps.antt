-- Laws of bits: in a word, in a list of words, and by part and arena word. `part_at` and `part_run` are the laws of the bitmaps: what every bit
-- is after one bit was set, and after a run of them.
use Prim.Native.Nat.{ℕ, zero, suc, ◌+◌, ◌-◌, ◌*◌, ◌/◌, ◌%◌, ◌^◌, ◌<◌, ◌≤◌, min, max}
use mathlib.Core.List.{List}
use mathlib.Core.Bool.{Bool, true, false, cond, ◌&&◌}
use mathlib.Core.Path.{◌≡◌, refl, sym, ◌∙◌, ap}
use native.Mathlib.Omega.{arith}
use native.Mathlib.Numerals.{one-add}
use native.Mathlib.Nat.{pow-suc, div-one, mul-one, sub-zero, suc-sub-suc, not-suc-le-zero}
use lib.ListN.{get_or, length, length-set}
use lib.Bits.{bit_or, bit_and, or_step, and_step, or_shr, and_shr, or_lt, shifted_half, shifted_even}
use lib.Pow.{shr-shr, pow-lt, pow_pos, field, mod-mod-pow}
use lib.Dec.{T, eqb, ltb, leb, eqb-zero-suc, eqb-suc-zero, eqb-suc-suc, leb-zero, leb-suc-zero, leb-suc-suc, ltb→lt}
use borrow.Author.Tests.{ltb-true, ltb-false, eq-eqb, ne_eqb, eqb-true, eqb-false}
use Rattle.model.specs.Bounded.{write_run}
use Rattle.model.specs.Memory.{word_bits, marked_part, gray_part, pointer_part}
use Rattle.model.specs.Bitmaps.{bit_of, with_bit_of, bit_at, with_bit, Part, allocated, marked, gray, pointer, place, bit_in, put_bit, put_bits}
use Rattle.model.proofs.Tests.{and_iff, eqb_shift}
use Rattle.model.proofs.Bounded.{within, run_read}
use Rattle.model.proofs.Words.{set_at}

-- bits of a word

pub bit_zero : (w : ℕ) → bit_of w 0 ≡ w % 2
unfolding bit_of
bit_zero w = rw div-one

pub bit_suc : (w k : ℕ) → bit_of w (suc k) ≡ bit_of (w / 2) k
unfolding bit_of
bit_suc w k = rw (shr-shr w 1 k, one-add)

pub bit_below : (w k : ℕ) → bit_of w k < 2
unfolding bit_of
bit_below w k = omega arith

pub bit_or_lem : (a b k : ℕ) → bit_of (bit_or a b) k ≡ max (bit_of a k) (bit_of b k)
unfolding bit_of
bit_or_lem a b k = rw or_shr (omega (arith, or_step (a / 2 ^ k) (b / 2 ^ k)))

pub bit_and_lem : (a b k : ℕ) → bit_of (bit_and a b) k ≡ min (bit_of a k) (bit_of b k)
unfolding bit_of
bit_and_lem a b k = rw and_shr (omega (arith, and_step (a / 2 ^ k) (b / 2 ^ k)))

pub bit_none : (k : ℕ) → bit_of 0 k ≡ 0
bit_none zero = bit_zero 0
bit_none (suc k) = bit_suc 0 k ∙ bit_none k

pub bit_pow : (j k : ℕ) → bit_of (2 ^ j) k ≡ cond (eqb j k) 1 0
bit_pow zero zero = bit_zero 1
bit_pow zero (suc k) = rw eqb-zero-suc (bit_suc 1 k ∙ bit_none k)
bit_pow (suc j) zero = rw (eqb-suc-zero, bit_zero, pow-suc) (omega arith)
bit_pow (suc j) (suc k) =
    let h : 2 ^ suc j / 2 ≡ 2 ^ j = rw pow-suc (omega arith) in
    rw (eqb-suc-suc, bit_suc, h) (bit_pow j k)

-- the word of width n with every bit turned
pub bit_not : (n w k : ℕ) → w < 2 ^ n → k < n → bit_of ((2 ^ n - 1) - w) k ≡ 1 - bit_of w k
bit_not zero w k h l = absurd (not-suc-le-zero l)
bit_not (suc n) w zero h l = rw (bit_zero, bit_zero, pow-suc) (omega (arith, rw pow-suc at h))
bit_not (suc n) w (suc k) h l =
    let e : ((2 ^ suc n - 1) - w) / 2 ≡ (2 ^ n - 1) - w / 2 = rw pow-suc (omega (arith, rw pow-suc at h)) in
    rw (bit_suc ((2 ^ suc n - 1) - w) k, e, bit_suc w k) (bit_not n (w / 2) k (omega (arith, rw pow-suc at h)) (omega arith))

-- the bits below n of a number
pub bit_mod : (w n k : ℕ) → k < n → bit_of (w % 2 ^ n) k ≡ bit_of w k
unfolding bit_of
bit_mod w n k h =
    let d = n - suc k in
    let e : n ≡ (d + 1) + k = omega arith in
    ap (λ i. w % 2 ^ i / 2 ^ k % 2) e ∙ rw (field w (d + 1) k) (mod-mod-pow (w / 2 ^ k) d 1)

-- the bits of a number moved up
pub bit_up : (w k j : ℕ) → bit_of (w * 2 ^ k) j ≡ cond (leb k j) (bit_of w (j - k)) 0
bit_up w zero j = rw (leb-zero, mul-one, sub-zero)
bit_up w (suc k) zero = rw (leb-suc-zero, bit_zero) (shifted_even w k)
bit_up w (suc k) (suc j) = rw (leb-suc-suc, bit_suc, shifted_half, suc-sub-suc) (bit_up w k j)

-- .. and of a word of n bits, which loses what is moved past its top
pub bit_shifted : (w n k j : ℕ) → j < n → bit_of (w * 2 ^ k % 2 ^ n) j ≡ cond (leb k j) (bit_of w (j - k)) 0
bit_shifted w n k j h = bit_mod (w * 2 ^ k) n j h ∙ bit_up w k j

-- every bit of the highest word of n bits is set
pub bit_all : (n k : ℕ) → k < n → bit_of (2 ^ n - 1) k ≡ 1
bit_all n k h = ap (λ w. bit_of w k) (sym (sub-zero (2 ^ n - 1))) ∙ bit_not n 0 k (pow_pos n) h ∙ ap (λ b. 1 - b) (bit_none k)

-- words of n bits that agree in each bit are equal
pub word_ext : (n a b : ℕ) → a < 2 ^ n → b < 2 ^ n → ((k : ℕ) → k < n → bit_of a k ≡ bit_of b k) → a ≡ b
word_ext zero a b p q f = omega arith
word_ext (suc n) a b p q f =
    let e : a / 2 ≡ b / 2 = word_ext n (a / 2) (b / 2) (omega (arith, rw pow-suc at p)) (omega (arith, rw pow-suc at q)) (λ k l. sym (bit_suc a k) ∙ f (suc k) (omega arith) ∙ bit_suc b k) in
    let o : a % 2 ≡ b % 2 = sym (bit_zero a) ∙ f 0 (omega arith) ∙ bit_zero b in
    omega arith

-- bit k of a word after bit j was set or cleared
pub with_bit_of_lem : (j : ℕ) (on : Bool) (w k : ℕ) → j < 64 → k < 64 → eqb (bit_of (with_bit_of j on w) k) 1 ≡ cond (eqb j k) on (eqb (bit_of w k) 1)
unfolding with_bit_of
with_bit_of_lem j true w k h l = rw (bit_or_lem, bit_pow) (one (eqb j k) (bit_of w k) (bit_below w k))
  where
    one : (b : Bool) (x : ℕ) → x < 2 → eqb (max x (cond b 1 0)) 1 ≡ cond b true (eqb x 1)
    one true zero l = refl
    one true (suc zero) l = refl
    one true (suc (suc x)) l = absurd (omega arith)
    one false zero l = refl
    one false (suc zero) l = refl
    one false (suc (suc x)) l = absurd (omega arith)
with_bit_of_lem j false w k h l = rw (bit_and_lem, bit_not 64 (2 ^ j) k (pow-lt h) l, bit_pow) (one (eqb j k) (bit_of w k) (bit_below w k))
  where
    one : (b : Bool) (x : ℕ) → x < 2 → eqb (min x (1 - cond b 1 0)) 1 ≡ cond b false (eqb x 1)
    one true zero l = refl
    one true (suc zero) l = refl
    one true (suc (suc x)) l = absurd (omega arith)
    one false zero l = refl
    one false (suc zero) l = refl
    one false (suc (suc x)) l = absurd (omega arith)

pub with_bit_fits : (j : ℕ) (on : Bool) (w : ℕ) → j < 64 → w < 2 ^ 64 → with_bit_of j on w < 2 ^ 64
unfolding with_bit_of
with_bit_fits j true w h l = or_lt 64 w (2 ^ j) l (pow-lt h)
with_bit_fits j false w h l = omega (arith, lib.Bits.and_le_l w ((2 ^ 64 - 1) - 2 ^ j))

-- bits of a list of words

bit_split : (i j : ℕ) → i / word_bits ≡ j / word_bits → eqb (j % word_bits) (i % word_bits) ≡ eqb i j
bit_split i j e = go (eqb i j) refl
  where
    go : (b : Bool) → eqb i j ≡ b → eqb (j % word_bits) (i % word_bits) ≡ b
    go true p = eq-eqb (j % word_bits) (i % word_bits) (omega (arith, eqb-true i j p))
    go false p = ne_eqb (j % word_bits) (i % word_bits) (λ q. eqb-false i j p (omega arith))

pub with_length : (i : ℕ) (on : Bool) (ws : List ℕ) → length (with_bit i on ws) ≡ length ws
unfolding with_bit
with_length i on ws = simp length-set

pub with_at : (j : ℕ) (on : Bool) (ws : List ℕ) → j / word_bits < length ws → (i : ℕ) → bit_at (with_bit j on ws) i ≡ cond (eqb i j) on (bit_at ws i)
unfolding bit_at with_bit
with_at j on ws h i = rw (set_at ws (j / word_bits) (with_bit_of (j % word_bits) on (get_or ws (j / word_bits) 0)) h (i / word_bits)) (go (eqb (i / word_bits) (j / word_bits)) refl)
  where
    go : (p : Bool) → eqb (i / word_bits) (j / word_bits) ≡ p →
        eqb (bit_of (cond p (with_bit_of (j % word_bits) on (get_or ws (j / word_bits) 0)) (get_or ws (i / word_bits) 0)) (i % word_bits)) 1 ≡ cond (eqb i j) on (eqb (bit_of (get_or ws (i / word_bits) 0) (i % word_bits)) 1)
    go true p =
        let e : i / word_bits ≡ j / word_bits = eqb-true _ _ p in
        rw (with_bit_of_lem (j % word_bits) on (get_or ws (j / word_bits) 0) (i % word_bits) (omega arith) (omega arith), bit_split i j e, e)
    go false p = rw (ne_eqb i j (λ q. eqb-false (i / word_bits) (j / word_bits) p (ap (λ x. x / word_bits) q)))

-- the parts of the bitmaps

-- a list of words that has four parts of n bits
abbrev pub Four : ℕ → List ℕ → Type 0
Four n ws = 4 * n ≤ word_bits * length ws

abbrev pub part_number : Part → ℕ
part_number allocated = 0
part_number marked = marked_part
part_number gray = gray_part
part_number pointer = pointer_part

abbrev pub same_part : Part → Part → Bool
same_part q r = eqb (part_number q) (part_number r)

place_is : (n : ℕ) (q : Part) (w : ℕ) → place n q w ≡ part_number q * n + w
place_is n allocated w = omega arith
place_is n marked w = refl
place_is n gray w = refl
place_is n pointer w = refl

-- the word of a bit lies in the bitmaps
pub place_fits : (n : ℕ) (q : Part) (w : ℕ) (ws : List ℕ) → w < n → Four n ws → place n q w / word_bits < length ws
place_fits n allocated w ws h f = omega arith
place_fits n marked w ws h f = omega arith
place_fits n gray w ws h f = omega arith
place_fits n pointer w ws h f = omega arith

-- two places are one place only in one part and at one word
pub place_eq : (n : ℕ) (q r : Part) (w v : ℕ) → w < n → v < n → eqb (place n q w) (place n r v) ≡ (same_part q r && eqb w v)
place_eq n q r w v h l = rw (place_is n q w, place_is n r v) (go (part_number q) (part_number r) (eqb (part_number q) (part_number r)) refl)
  where
    go : (i j : ℕ) (b : Bool) → eqb i j ≡ b → eqb (i * n + w) (j * n + v) ≡ (b && eqb w v)
    go i j true e = rw (eqb-true i j e) (eqb_shift (j * n) w v)
    go i j false e = ne_eqb (i * n + w) (j * n + v) (λ p. apart (ltb i j) refl p)
      where
        apart : (b : Bool) → ltb i j ≡ b → i * n + w ≡ j * n + v → ⊥
        apart true f p = omega (arith, native.Mathlib.Nat.mul-le-mul_right n (ltb-true i j f))
        apart false f p = let k : suc j ≤ i = omega (arith, ltb-false i j f, eqb-false i j e) in omega (arith, native.Mathlib.Nat.mul-le-mul_right n k)

pub part_length : (n : ℕ) (q : Part) (w : ℕ) (on : Bool) (ws : List ℕ) → length (put_bit n q w on ws) ≡ length ws
unfolding put_bit
part_length n q w on ws = with_length (place n q w) on ws

pub part_at : (n : ℕ) (q r : Part) (v : ℕ) (on : Bool) (ws : List ℕ) → v < n → Four n ws → (w : ℕ) →
    bit_in n q (put_bit n r v on ws) w ≡ cond (same_part q r && eqb w v) on (bit_in n q ws w)
unfolding bit_in put_bit
part_at n q r v on ws h f w = go (ltb w n) refl
  where
    go : (p : Bool) → ltb w n ≡ p → (p && bit_at (with_bit (place n r v) on ws) (place n q w)) ≡ cond (same_part q r && eqb w v) on (p && bit_at ws (place n q w))
    go true e = rw (with_at (place n r v) on ws (place_fits n r v ws h f) (place n q w), place_eq n q r w v (ltb-true w n e) h)
    go false e = rw (ne_eqb w v (λ x. absurd (omega (arith, ltb-false w n e)))) (none (same_part q r))
      where
        none : (b : Bool) → false ≡ cond (b && false) on false
        none true = refl
        none false = refl

-- .. and after a run of bits
module _ (n : ℕ) (r : Part) (a m : ℕ) (g : ℕ → Bool) (ws : List ℕ) (h : a + m ≤ n) (f : Four n ws) where
  pub part_run : (q : Part) (w : ℕ) → bit_in n q (put_bits n r a m g ws) w ≡ cond (same_part q r && within a m w) (g w) (bit_in n q ws w)
  part_run q w =
      run_read (Four n) n (bit_in n q) (put_bit n r) (same_part q r) (λ b. b) (λ i b x _ o. rw (part_length n r i b x) o)
      (λ i b x k o. part_at n q r i b x k o) a m g ws h f w

pub run_length_lem : (n : ℕ) (r : Part) (a m : ℕ) (g : ℕ → Bool) (ws : List ℕ) → length (put_bits n r a m g ws) ≡ length ws
unfolding write_run Rattle.model.specs.Bounded.fold_below
run_length_lem n r a zero g ws = refl
run_length_lem n r a (suc m) g ws = part_length n r (a + m) (g (a + m)) _ ∙ run_length_lem n r a m g ws

-- a bit is only on below the end
pub bit_inside : (n : ℕ) (q : Part) (ws : List ℕ) (w : ℕ) → T (bit_in n q ws w) → w < n
unfolding bit_in
bit_inside n q ws w t = ltb→lt w n ((and_iff (ltb w n) _).0 t).0

-- the bit of a word of the arena is the bit at its place
pub bit_in_lem : (n : ℕ) (q : Part) (ws : List ℕ) (w : ℕ) → w < n → bit_in n q ws w ≡ bit_at ws (place n q w)
unfolding bit_in
bit_in_lem n q ws w h = rw (borrow.Author.Tests.lt-ltb w n h)

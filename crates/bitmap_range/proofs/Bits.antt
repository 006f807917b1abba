-- Laws of the bits of words and lists of words: lists that agree in each bit are equal, what every bit is after a run of bits was set, a run of
-- bits inside one word, a run of words as a run of bits, and the number of bits of a word that are on.
use Prim.Native.Nat.{ℕ, zero, suc, ◌+◌, ◌*◌, ◌/◌, ◌%◌, ◌^◌, ◌<◌, ◌≤◌}
use mathlib.Core.Bool.{Bool, true, false, cond}
use mathlib.Core.List.{List}
use mathlib.Core.Path.{◌≡◌, refl, sym, ◌∙◌, ap}
use native.Mathlib.Omega.{arith}
use native.Mathlib.Nat.{pow-suc, add_assoc, not-suc-le-zero}
use native.Mathlib.Numerals.{one-add}
use lib.ListN.{get_or, set, length}
use lib.Seq.{ext_get_or, get_or-set_same, set-get_or, set-set}
use lib.Count.{ones, ones_in, ones_step}
use lib.Dec.{eqb, ltb, leb}
use borrow.Author.Tests.{ltb-true, ltb-false, ne_eqb, eqb-true, eqb-false, eq-eqb}
use Rattle.model.specs.Bounded.{write_run, fold_below, count_below}
use Rattle.model.specs.Memory.{put_words}
use Rattle.model.specs.Bitmaps.{bit_of, with_bit_of, bit_at, with_bit}
use Rattle.model.proofs.Tests.{same_test, leb_iff, ltb_iff}
use Rattle.model.proofs.Bounded.{within, within_true, run_ok, run_read, count_cong, fold_keeps}
use Rattle.model.proofs.Words.{set_at, words_at_lem, words_length}
use Rattle.model.proofs.Bitmaps.{bit_zero, bit_suc, bit_below, bit_none, word_ext, with_bit_of_lem, with_bit_fits, with_length, with_at}
use Rattle.bitmap_range.proofs.Runs.{count_append}

-- bits of a word

-- a word of n bits has no bit from bit n on
pub bit_high : (n w k : ℕ) → w < 2 ^ n → n ≤ k → bit_of w k ≡ 0
bit_high zero w k h l = let e : w ≡ 0 = omega arith in rw e (bit_none k)
bit_high (suc n) w zero h l = absurd (not-suc-le-zero l)
bit_high (suc n) w (suc k) h l = bit_suc w k ∙ bit_high n (w / 2) k (omega (arith, rw pow-suc at h)) (omega arith)

-- bits that are on together are equal
pub bit_same : (x y : ℕ) → x < 2 → y < 2 → eqb x 1 ≡ eqb y 1 → x ≡ y
bit_same x y h l e = go (eqb y 1) refl
  where
    go : (p : Bool) → eqb y 1 ≡ p → x ≡ y
    go true q = omega (arith, eqb-true x 1 (e ∙ q), eqb-true y 1 q)
    go false q = omega (arith, eqb-false x 1 (e ∙ q), eqb-false y 1 q)

-- words whose bits are on together are equal
pub words_same : (a b : ℕ) → a < 2 ^ 64 → b < 2 ^ 64 → ((k : ℕ) → k < 64 → eqb (bit_of a k) 1 ≡ eqb (bit_of b k) 1) → a ≡ b
words_same a b p q f = word_ext 64 a b p q (λ k l. bit_same (bit_of a k) (bit_of b k) (bit_below a k) (bit_below b k) (f k l))

eqb_comm : (a b : ℕ) → eqb a b ≡ eqb b a
eqb_comm a b = go (eqb b a) refl
  where
    go : (p : Bool) → eqb b a ≡ p → eqb a b ≡ p
    go true e = eq-eqb a b (sym (eqb-true b a e))
    go false e = ne_eqb a b (λ q. eqb-false b a e (sym q))

-- every bit of a word after one was set, also those past its end
pub with_bit_at : (j : ℕ) (on : Bool) (w : ℕ) → j < 64 → w < 2 ^ 64 → (k : ℕ) → eqb (bit_of (with_bit_of j on w) k) 1 ≡ cond (eqb k j) on (eqb (bit_of w k) 1)
with_bit_at j on w h f k = go (ltb k 64) refl
  where
    go : (p : Bool) → ltb k 64 ≡ p → eqb (bit_of (with_bit_of j on w) k) 1 ≡ cond (eqb k j) on (eqb (bit_of w k) 1)
    go true e = rw (eqb_comm k j) (with_bit_of_lem j on w k h (ltb-true k 64 e))
    go false e =
        let l : 64 ≤ k = ltb-false k 64 e in
        rw (bit_high 64 (with_bit_of j on w) k (with_bit_fits j on w h f) l, bit_high 64 w k f l, ne_eqb k j (λ q. absurd (omega arith)))

-- a word after a run of its bits was set
module _ (b n : ℕ) (g : ℕ → Bool) (w : ℕ) (h : b + n ≤ 64) (f : w < 2 ^ 64) where
  pub word_run_fits : write_run with_bit_of b n g w < 2 ^ 64
  word_run_fits =
      run_ok (λ x. x < 2 ^ 64) 64 (λ x k. eqb (bit_of x k) 1) with_bit_of true (λ y. y) (λ i y x l o. with_bit_fits i y x l o)
      (λ i y x l o k. with_bit_at i y x l o k) b n g w h f

  pub word_run_at : (k : ℕ) → eqb (bit_of (write_run with_bit_of b n g w) k) 1 ≡ cond (within b n k) (g k) (eqb (bit_of w k) 1)
  word_run_at =
      run_read (λ x. x < 2 ^ 64) 64 (λ x k. eqb (bit_of x k) 1) with_bit_of true (λ y. y) (λ i y x l o. with_bit_fits i y x l o)
      (λ i y x l o k. with_bit_at i y x l o k) b n g w h f

-- how many bits of a word of n bits are on
pub ones_count : (n w : ℕ) → w < 2 ^ n → ones w ≡ count_below n (λ k. eqb (bit_of w k) 1)
unfolding count_below ones ones_in
ones_count zero w h = let e : w ≡ 0 = omega arith in rw e
ones_count (suc n) w h =
    let t : ℕ → Bool = λ k. eqb (bit_of w k) 1 in
    let rest : ones (w / 2) ≡ count_below n (λ k. t (1 + k)) =
    ones_count n (w / 2) (omega (arith, rw pow-suc at h)) ∙ count_cong n _ _ (λ k l. rw (one-add, bit_suc w k)) in
    ones_step w ∙ ap (λ x. w % 2 + x) rest ∙ ap (λ x. x + count_below n (λ k. t (1 + k))) lowest
    ∙ sym (count_append 1 n t) ∙ ap (λ m. count_below m t) (one-add n)
  where
    one : (x : ℕ) → x < 2 → x ≡ 0 + cond (eqb x 1) 1 0
    one zero l = refl
    one (suc zero) l = refl
    one (suc (suc x)) l = absurd (omega arith)

    lowest : w % 2 ≡ count_below 1 (λ k. eqb (bit_of w k) 1)
    lowest = rw (bit_zero w) (one (w % 2) (omega arith))

-- bits of a list of words

-- words of 64 bits
abbrev pub Fit : List ℕ → Type 0
Fit ws = (x : ℕ) → get_or ws x 0 < 2 ^ 64

-- bit k of word x
pub bit_of_word : (ws : List ℕ) (x k : ℕ) → k < 64 → bit_at ws (x * 64 + k) ≡ eqb (bit_of (get_or ws x 0) k) 1
unfolding bit_at
bit_of_word ws x k h =
    let e : (x * 64 + k) / 64 ≡ x = omega arith in
    let r : (x * 64 + k) % 64 ≡ k = omega arith in
    rw (e, r)

-- lists of words that agree in each bit are equal
pub bits_ext : (a b : List ℕ) → length a ≡ length b → Fit a → Fit b → ((i : ℕ) → i < length a * 64 → bit_at a i ≡ bit_at b i) → a ≡ b
bits_ext a b e p q f =
    ext_get_or 0 a b e (λ x l. words_same (get_or a x 0) (get_or b x 0) (p x) (q x) (λ k m.
    sym (bit_of_word a x k m) ∙ f (x * 64 + k) (omega arith) ∙ bit_of_word b x k m))

pub set_fit : (ws : List ℕ) (x v : ℕ) → x < length ws → Fit ws → v < 2 ^ 64 → Fit (set ws x v)
set_fit ws x v h f l y = rw (set_at ws x v h y) (go (eqb y x))
  where
    go : (b : Bool) → cond b v (get_or ws y 0) < 2 ^ 64
    go true = l
    go false = f y

-- a list of words after a run of bits was set
module _ (b n : ℕ) (g : ℕ → Bool) (ws : List ℕ) (h : b + n ≤ 64 * length ws) where
  pub bits_length : length (write_run with_bit b n g ws) ≡ length ws
  bits_length =
      run_ok (λ l. length l ≡ length ws) (64 * length ws) bit_at with_bit true (λ y. y) (λ i y l k o. with_length i y l ∙ o)
      (λ i y l k o. with_at i y l (omega arith)) b n g ws h refl

  pub bits_at : (i : ℕ) → bit_at (write_run with_bit b n g ws) i ≡ cond (within b n i) (g i) (bit_at ws i)
  bits_at =
      run_read (λ l. length l ≡ length ws) (64 * length ws) bit_at with_bit true (λ y. y) (λ i y l k o. with_length i y l ∙ o)
      (λ i y l k o. with_at i y l (omega arith)) b n g ws h refl

  pub bits_fit : Fit ws → Fit (write_run with_bit b n g ws)
  unfolding write_run with_bit
  bits_fit f =
      (fold_keeps (λ l. (length l ≡ length ws) × Fit l) n (λ k. with_bit (b + k) (g (b + k))) ws (λ k l m p. (
        with_length (b + k) (g (b + k)) l ∙ p.0,
        set_fit l ((b + k) / 64) _ (omega (arith, p.0)) p.1 (with_bit_fits ((b + k) % 64) (g (b + k)) _ (omega arith) (p.1 ((b + k) / 64))),
      )) (refl, f)).1

-- a run of bits inside one word
pub run_in_word : (x low k : ℕ) (g : ℕ → Bool) (ws : List ℕ) → x < length ws → low + k ≤ 64 →
    write_run with_bit (x * 64 + low) k g ws ≡ set ws x (write_run with_bit_of low k (λ j. g (x * 64 + j)) (get_or ws x 0))
unfolding write_run fold_below with_bit
run_in_word x low zero g ws h l = sym (set-get_or ws x 0)
run_in_word x low (suc k) g ws h l =
    let v = write_run with_bit_of low k (λ j. g (x * 64 + j)) (get_or ws x 0) in
    let e : ((x * 64 + low) + k) / 64 ≡ x = omega arith in
    let r : ((x * 64 + low) + k) % 64 ≡ low + k = omega arith in
    rw (e, r, run_in_word x low k g ws h (omega arith), get_or-set_same ws x v 0 h, set-set, add_assoc (x * 64) low k)

-- a run of words is a run of bits
within_words : (a n i : ℕ) → within (a * 64) (n * 64) i ≡ within a n (i / 64)
within_words a n i = rw (
  same_test (leb (a * 64) i) (leb a (i / 64)) (λ t. (leb_iff a (i / 64)).1 (omega (arith, (leb_iff (a * 64) i).0 t))) (λ t. (leb_iff (a * 64) i).1 (omega (arith, (leb_iff a (i / 64)).0 t))),
  same_test (ltb i (a * 64 + n * 64)) (ltb (i / 64) (a + n)) (λ t. (ltb_iff (i / 64) (a + n)).1 (omega (arith, (ltb_iff i (a * 64 + n * 64)).0 t)))
      (λ t. (ltb_iff i (a * 64 + n * 64)).1 (omega (arith, (ltb_iff (i / 64) (a + n)).0 t))),
)

module _ (a n : ℕ) (g : ℕ → ℕ) (ws : List ℕ) (h : a + n ≤ length ws) where
  words_bit : (i : ℕ) → bit_at (put_words a n g ws) i ≡ cond (within (a * 64) (n * 64) i) (eqb (bit_of (g (i / 64)) (i % 64)) 1) (bit_at ws i)
  unfolding bit_at
  words_bit i = rw (words_at_lem (length ws) a n g ws h refl (i / 64), within_words a n i) (go (within a n (i / 64)))
    where
      go : (b : Bool) → eqb (bit_of (cond b (g (i / 64)) (get_or ws (i / 64) 0)) (i % 64)) 1 ≡ cond b (eqb (bit_of (g (i / 64)) (i % 64)) 1) (eqb (bit_of (get_or ws (i / 64) 0) (i % 64)) 1)
      go true = refl
      go false = refl

  words_fit : Fit ws → ((x : ℕ) → a ≤ x → x < a + n → g x < 2 ^ 64) → Fit (put_words a n g ws)
  words_fit f p y = rw (words_at_lem (length ws) a n g ws h refl y) (go (within a n y) refl)
    where
      go : (b : Bool) → within a n y ≡ b → cond b (g y) (get_or ws y 0) < 2 ^ 64
      go true e = let w = within_true a n y e in p y w.0 w.1
      go false e = f y

  pub words_as_bits : Fit ws → ((x : ℕ) → a ≤ x → x < a + n → g x < 2 ^ 64) →
      put_words a n g ws ≡ write_run with_bit (a * 64) (n * 64) (λ i. eqb (bit_of (g (i / 64)) (i % 64)) 1) ws
  words_as_bits f p =
      let bits : ℕ → Bool = λ i. eqb (bit_of (g (i / 64)) (i % 64)) 1 in
      let room : a * 64 + n * 64 ≤ 64 * length ws = omega arith in
      bits_ext _ _ (words_length (length ws) a n g ws h refl ∙ sym (bits_length (a * 64) (n * 64) bits ws room)) (words_fit f p)
      (bits_fit (a * 64) (n * 64) bits ws room f) (λ i l. words_bit i ∙ sym (bits_at (a * 64) (n * 64) bits ws room i))

-- the bits that are on in one word more
pub count_word : (ws : List ℕ) (first k : ℕ) → Fit ws →
    count_below ((k + 1) * 64) (λ j. bit_at ws (first * 64 + j)) ≡ count_below (k * 64) (λ j. bit_at ws (first * 64 + j)) + ones (get_or ws (first + k) 0)
count_word ws first k f =
    let t : ℕ → Bool = λ j. bit_at ws (first * 64 + j) in
    let e : (k + 1) * 64 ≡ k * 64 + 64 = omega arith in
    let word : count_below 64 (λ j. t (k * 64 + j)) ≡ ones (get_or ws (first + k) 0) =
    count_cong 64 _ _ (λ j l. ap (bit_at ws) (omega arith) ∙ bit_of_word ws (first + k) j l) ∙ sym (ones_count 64 (get_or ws (first + k) 0) (f (first + k))) in
    rw (e, count_append (k * 64) 64 t, word)

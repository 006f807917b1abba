-- What shading leaves, by the way that the code took; one more value of a slice; the barrier.
use Prim.Native.Nat.{ℕ, ◌+◌, ◌*◌, ◌≤◌}
use mathlib.Core.Bool.{Bool, true, false, not, cond, and-false}
use mathlib.Core.List.{List}
use mathlib.Core.Logic.{◌≢◌}
use mathlib.Core.Path.{◌≡◌, sym}
use native.Mathlib.Numerals.{add-one}
use native.Mathlib.Omega.{arith}
use lib.Dec.{eqb}
use lib.ListN.{get_or}
use borrow.Author.Tests.{eqb-false, eq-eqb, ne_eqb, lt-ltb}
use Rattle.model.specs.Memory.{word_of, lent, phase_at, mark, page_words, nil, marked_part, gray_part}
use Rattle.model.specs.Bitmaps.{bit_at, with_bit, bit_in, put_bit, marked}
use Rattle.model.specs.Spans.{is_scan, span_of}
use Rattle.model.specs.Shading.{is_white, shade, shade_all, shade_count, barrier}
use Rattle.model.proofs.Bounded.{count_none, count_step}
use Rattle.model.proofs.Shading.{all_zero_lem, all_suc}
use Rattle.shading.specs.Needs.{Shadable, Shades, ShadesAll}

-- what is not white stays
black : (p : ℕ) (t : List ℕ) (v : ℕ) (b : List ℕ) → is_white p t v b ≡ false → Shades p t v b 0 b
unfolding shade
black p t v b e = record { count = rw e; bits = rw e }

pub nil_shades : (p : ℕ) (t : List ℕ) (v : ℕ) (b : List ℕ) → true ≡ eqb v nil → Shades p t v b 0 b
nil_shades p t v b e = black p t v b (rw (← e))

-- a value that is not nil, and names the record at word w
module _ {p : ℕ} {t b : List ℕ} {v : ℕ} (S : Shadable p t b v) (d : false ≡ eqb v nil) {w : ℕ} (e : w ≡ word_of v) where
  marked_is : {m : Bool} → m ≡ bit_at b (marked_part * (page_words * p) + w) → bit_in (page_words * p) marked b (word_of v) ≡ m
  unfolding bit_in
  marked_is x =
      let n = S.named (eqb-false v nil (sym d)) in
      rw (← e) (rw (lt-ltb w (page_words * p) (omega (arith, n.word))) (sym x))

  pub marked_shades : true ≡ bit_at b (marked_part * (page_words * p) + w) → Shades p t v b 0 b
  marked_shades x = black p t v b (rw (marked_is x) (and-false (not (eqb v nil))))

  module _ (x : false ≡ bit_at b (marked_part * (page_words * p) + w)) {b' : List ℕ} (f : b' ≡ with_bit (marked_part * (page_words * p) + w) true b) where
    -- a white record in a noscan span
    pub noscan_shades : {s : Bool} → s ≡ is_scan t (span_of t w) → s ≡ false → Shades p t v b 1 b'
    unfolding shade put_bit
    noscan_shades q s = record { count = rw (← d, marked_is x); bits = rw (← d, marked_is x, ← e, ← q, s, f) }

    -- .. in a scan span
    pub scan_shades : {s : Bool} → s ≡ is_scan t (span_of t w) → s ≡ true → {b'' : List ℕ} → b'' ≡ with_bit (gray_part * (page_words * p) + w) true b' → Shades p t v b 1 b''
    unfolding shade put_bit
    scan_shades q s g = record { count = rw (← d, marked_is x); bits = rw (← d, marked_is x, ← e, ← q, s, g, f) }

-- the barrier outside the mark phase, and in it
pub no_barrier : (p : ℕ) (a t b r : List ℕ) (old new : ℕ) → get_or r phase_at 0 ≢ mark → b ≡ barrier (lent p a t b r) old new
unfolding barrier
no_barrier p a t b r old new d = rw (ne_eqb (get_or r phase_at 0) mark d)

pub shaded_both : (p : ℕ) (a t b r : List ℕ) (old new : ℕ) → get_or r phase_at 0 ≡ mark → {m n : ℕ} {x y : List ℕ} → Shades p t old b m x → Shades p t new x n y → y ≡ barrier (lent p a t b r) old new
unfolding barrier
shaded_both p a t b r old new e f g = rw (eq-eqb (get_or r phase_at 0) mark e, ← f.bits) g.bits

-- at most one mark turns on
pub at_most_one : {p : ℕ} {t : List ℕ} {v : ℕ} {b : List ℕ} {n : ℕ} {x : List ℕ} → Shades p t v b n x → n ≤ 1
at_most_one {p} {t} {v} {b} S = rw S.count (go (is_white p t v b))
  where
    go : (w : Bool) → cond w 1 0 ≤ 1
    go true = omega arith
    go false = omega arith

-- the values of a slice: none, and one more
pub none_shaded : (p : ℕ) (t : List ℕ) (value : ℕ → ℕ) (b : List ℕ) → ShadesAll p t 0 value b 0 b
unfolding shade_count
none_shaded p t value b = record { count = rw (count_none (λ i. is_white p t (value i) (shade_all p t i value b))); bits = sym (all_zero_lem p t value b) }

pub one_more : (p : ℕ) (t : List ℕ) (k : ℕ) (value : ℕ → ℕ) (b : List ℕ) {m n : ℕ} {x y : List ℕ} → ShadesAll p t k value b m x → Shades p t (value k) x n y → ShadesAll p t (k + 1) value b (m + n) y
unfolding shade_count
one_more p t k value b A S =
    record {
      count = rw (count_step k (λ i. is_white p t (value i) (shade_all p t i value b)), ← A.bits, A.count, S.count);
      bits = rw (add-one k, all_suc p t k value b, ← A.bits) S.bits;
    }

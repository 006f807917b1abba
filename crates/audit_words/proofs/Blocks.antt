-- Blocks: the bits of a bitmap word, taken from the lowest on, and what the pointer bits of swept spans come to.
use Prim.Native.Nat.{ℕ, ◌+◌, ◌-◌, ◌*◌, ◌/◌, ◌%◌, ◌^◌, ◌<◌, ◌≤◌}
use mathlib.Core.Bool.{Bool, true, false, cond}
use mathlib.Core.List.{List}
use mathlib.Core.Logic.{◌⊎◌, inl, inr, ◌≢◌, ◌↔◌}
use mathlib.Core.Path.{◌≡◌, refl, sym, ◌∙◌, ap}
use native.Mathlib.Nat.{lt_of_not-le}
use native.Mathlib.Omega.{arith}
use lib.Count.{count_trailing_zeros}
use lib.Dec.{T, eqb, ltb}
use lib.ListN.{get_or}
use borrow.Author.Tests.{ltb-true, ltb-false, lt-leb, leb-false, eqb-true, eqb-false}
use Rattle.model.specs.Memory.{page_words, word_bits, page_blocks, unswept_flag, pointer_part}
use Rattle.model.specs.Bitmaps.{bit_of, bit_at, with_bit_of, allocated, pointer}
use Rattle.model.specs.Spans.{page_count, kind_entry, span_of, element_of, element_words}
use Rattle.model.proofs.Tests.{is_true, clash}
use Rattle.model.proofs.Bounded.{First}
use Rattle.model.proofs.Bitmaps.{bit_none, bit_in_lem, with_bit_of_lem}
use Rattle.model.specs.Facts.{IsSpan, Reference, bit, kept_at}
use Rattle.model.proofs.Spans.{at_home, round, whole}
use Rattle.model.proofs.Named.{kept_allocated_lem}
use Rattle.bitmap.proofs.Bits.{trailing_first, trailing_some}
use Rattle.page_table.specs.Span.{Reads}
use Rattle.page_table.specs.declared.Span.{Span}
use Rattle.audit_words.specs.Contents.{Filled, BlockContents, BlocksContents, SpanContents}

-- the lowest bit of a word that is not 0
module _ (left : ℕ) (fits : left < 2 ^ 64) (some : left ≢ 0) where
  first : First 64 (λ k. eqb (bit_of left k) 1) (count_trailing_zeros 64 left)
  first = trailing_first 64 left

  pub low : count_trailing_zeros 64 left < 64
  low = trailing_some left fits some

  pub lowest_on : T (eqb (bit_of left (count_trailing_zeros 64 left)) 1)
  lowest_on = is_true _ (first.holds low)

  -- without it the lowest is another, higher one
  pub higher : count_trailing_zeros 64 left < count_trailing_zeros 64 (with_bit_of (count_trailing_zeros 64 left) false left)
  higher = lt_of_not-le (λ l. clash _ (after.holds (below l)) (off (count_trailing_zeros 64 rest) l))
    where
      rest : ℕ
      rest = with_bit_of (count_trailing_zeros 64 left) false left

      after : First 64 (λ k. eqb (bit_of rest k) 1) (count_trailing_zeros 64 rest)
      after = trailing_first 64 rest

      below : count_trailing_zeros 64 rest ≤ count_trailing_zeros 64 left → count_trailing_zeros 64 rest < 64
      below l = omega (arith, low)

      off : (k : ℕ) → k ≤ count_trailing_zeros 64 left → eqb (bit_of rest k) 1 ≡ false
      off k l = with_bit_of_lem (count_trailing_zeros 64 left) false left k low (omega (arith, low)) ∙ go (eqb (count_trailing_zeros 64 left) k) refl
        where
          go : (c : Bool) → eqb (count_trailing_zeros 64 left) k ≡ c → cond c false (eqb (bit_of left k) 1) ≡ false
          go true e = refl
          go false e = first.before k (omega (arith, eqb-false (count_trailing_zeros 64 left) k e))

-- the bits of `pointers` that are not left were taken, and their words hold references
pub record BitsTaken (p : ℕ) (a t b : List ℕ) (at pointers left : ℕ) : Type 0 where
  pub among : (j : ℕ) → j < 64 → T (eqb (bit_of left j) 1) → T (eqb (bit_of pointers j) 1)
  pub done : (j : ℕ) → j < 64 → T (eqb (bit_of pointers j) 1) → T (eqb (bit_of left j) 1) ⊎ Reference p t b (get_or a (word_bits * at + j) 0)

module _ (p : ℕ) (a t b : List ℕ) (at pointers : ℕ) where
  pub taken_none : BitsTaken p a t b at pointers pointers
  taken_none = record { among = λ j l x. x; done = λ j l x. inl x }

  pub taken_one : (left : ℕ) (fits : left < 2 ^ 64) (some : left ≢ 0) → BitsTaken p a t b at pointers left →
      Reference p t b (get_or a (word_bits * at + count_trailing_zeros 64 left) 0) → BitsTaken p a t b at pointers (with_bit_of (count_trailing_zeros 64 left) false left)
  taken_one left fits some H r = record { among = λ j l x. H.among j l (back j (eqb z j) (rw (bits j l) at x)); done = λ j l x. on j l (H.done j l x) }
    where
      z : ℕ
      z = count_trailing_zeros 64 left

      bits : (j : ℕ) → j < 64 → eqb (bit_of (with_bit_of z false left) j) 1 ≡ cond (eqb z j) false (eqb (bit_of left j) 1)
      bits j l = with_bit_of_lem z false left j (low left fits some) l

      back : (j : ℕ) (c : Bool) → T (cond c false (eqb (bit_of left j) 1)) → T (eqb (bit_of left j) 1)
      back j true x = absurd x
      back j false x = x

      on : (j : ℕ) → j < 64 → T (eqb (bit_of left j) 1) ⊎ Reference p t b (get_or a (word_bits * at + j) 0) →
          T (eqb (bit_of (with_bit_of z false left) j) 1) ⊎ Reference p t b (get_or a (word_bits * at + j) 0)
      on j l (inr y) = inr y
      on j l (inl x) = rw (bits j l) (go (eqb z j) refl)
        where
          go : (c : Bool) → eqb z j ≡ c → T (cond c false (eqb (bit_of left j) 1)) ⊎ Reference p t b (get_or a (word_bits * at + j) 0)
          go true e = inr (rw (eqb-true z j e) at r)
          go false e = inl x

  pub taken_all : BitsTaken p a t b at pointers 0 → BlockContents p a t b at pointers
  taken_all H j l x = go (H.done j l x)
    where
      go : T (eqb (bit_of 0 j) 1) ⊎ Reference p t b (get_or a (word_bits * at + j) 0) → Reference p t b (get_or a (word_bits * at + j) 0)
      go (inl y) = absurd (rw (bit_none j) at y)
      go (inr y) = y

-- the pointer bits of block `at` are one bitmap word
block_bit : (p : ℕ) (b : List ℕ) (at j : ℕ) → at < page_blocks * p → j < 64 → bit p pointer b (word_bits * at + j) ≡ eqb (bit_of (get_or b (pointer_part * (page_blocks * p) + at) 0) j) 1
unfolding bit_at
block_bit p b at j h l =
    let d : (pointer_part * (page_words * p) + (word_bits * at + j)) / word_bits ≡ pointer_part * (page_blocks * p) + at = omega arith in
    let m : (pointer_part * (page_words * p) + (word_bits * at + j)) % word_bits ≡ j = omega arith in
    bit_in_lem (page_words * p) pointer b (word_bits * at + j) (omega arith) ∙ rw (d, m)

module _ (p : ℕ) (a t b : List ℕ) where
  pub blocks_more : (from k : ℕ) → k < page_blocks * p → BlocksContents p a t b from k → BlockContents p a t b k (get_or b (pointer_part * (page_blocks * p) + k) 0) → BlocksContents p a t b from (k + 1)
  blocks_more from k h B C w l m x = go (ltb w (word_bits * k)) refl
    where
      go : (c : Bool) → ltb w (word_bits * k) ≡ c → Reference p t b (get_or a w 0)
      go true e = B w l (ltb-true w (word_bits * k) e) x
      go false e =
          let o = ltb-false w (word_bits * k) e in
          let z : word_bits * k + (w - word_bits * k) ≡ w = omega arith in
          let y : T (bit p pointer b (word_bits * k + (w - word_bits * k))) = rw z x in
          rw z at (C (w - word_bits * k) (omega arith) (rw (block_bit p b k (w - word_bits * k) h (omega arith)) at y))

  pub blocks_block : (from to k : ℕ) → from ≤ k → k < to → to ≤ page_blocks * p → BlocksContents p a t b from to → BlockContents p a t b k (get_or b (pointer_part * (page_blocks * p) + k) 0)
  blocks_block from to k l m h B j n x = B (word_bits * k + j) (omega arith) (omega arith) (rw (block_bit p b k j (omega arith) n) x)

module _ (p : ℕ) (a t b : List ℕ) (F : Filled p a t b) where
  -- in a swept span what is allocated is kept
  kept_swept : (w : ℕ) → kind_entry t (span_of t w) < unswept_flag → T (bit p allocated b w) → T (kept_at p t b w)
  kept_swept w l x = rw (lt-leb unswept_flag (kind_entry t (span_of t w)) l) x

  -- .. and each pointer bit belongs to a kept element
  swept_span_lem : (s : ℕ) → IsSpan t s → kind_entry t s < unswept_flag → BlocksContents p a t b (page_blocks * s) (page_blocks * s + page_blocks * page_count t s) ↔ SpanContents p a t b s
  swept_span_lem s i k = (there, back)
    where
      there : BlocksContents p a t b (page_blocks * s) (page_blocks * s + page_blocks * page_count t s) → SpanContents p a t b s
      there B w l m x f n y =
          let E = F.consistent.rules.element w (kept_allocated_lem F.consistent.rules w x) in
          let e = (at_home F.consistent.spans s w i l m).1 in
          B (w + f) (omega arith) (omega (arith, rw e at (whole F.consistent.spans w E).0)) y

      back : SpanContents p a t b s → BlocksContents p a t b (page_blocks * s) (page_blocks * s + page_blocks * page_count t s)
      back g w l m y =
          let f = F.consistent.rules.pointers w y in
          let e = (at_home F.consistent.spans s w i (omega arith) (omega arith)).1 in
          let r = round F.consistent.spans w f.0.used in
          let low : page_words * s ≤ element_of t w = rw (← e) r.0 in
          let h = (at_home F.consistent.spans s (element_of t w) i low (omega (arith, r.1))).1 in
          let z : element_of t w + (w - element_of t w) ≡ w = omega (arith, r.1) in
          rw z at (g (element_of t w) low (omega (arith, r.1)) (kept_swept (element_of t w) (rw h k) f.2) (w - element_of t w) (omega (arith, r.1, r.2, ap (element_words t) e)) (rw z y))

  -- .. as it was read
  pub read_swept : {s : ℕ} {r : Span} → Reads t s r → IsSpan t s → r.unswept ≡ false → (first : ℕ) → first ≡ page_blocks * s → (x : Bool) →
      T x ↔ BlocksContents p a t b first (first + page_blocks * r.pages) → T x ↔ SpanContents p a t b s
  read_swept {s} R i u first e x f =
      let both = swept_span_lem s i (leb-false _ _ (sym R.unswept ∙ u)) in
      let told = rw (R.pages, e) at f in
      (λ y. both.0 (told.0 y), λ g. told.1 (both.1 g))

-- What the audit of the arena's words assumes of the page table and the bitmaps, and what it says of the words.
use Rattle.std.specs.Prelude.{ℕ, ◌+◌, ◌*◌, ◌<◌, ◌≤◌, List, ◌≡◌, T, length, get_or, ◌==◌}
use Rattle.model.specs.Memory.{page_words, word_bits, first_word}
use Rattle.model.specs.Bitmaps.{pointer, bit_of}
use Rattle.model.specs.Spans.{page_count, is_unswept, element_of, element_words, span_of}
use Rattle.model.specs.Facts.{IsSpan, Element, Reference, bit, kept_at}
use Rattle.model.specs.Lent.{Consistent}
use Rattle.audit_references.specs.References.{kept_from}

-- a page table and bitmaps that are as they should be, and an arena of as many pages
pub record Filled (p : ℕ) (a t b : List ℕ) : Type 0 where
  pub consistent : Consistent p t b
  pub arena : length a ≡ page_words * p

-- the pointer words among the n words from w on hold references
abbrev pub Pointers : ℕ → List ℕ → List ℕ → List ℕ → ℕ → ℕ → Type 0
Pointers p a t b w n = (f : ℕ) → f < n → T (bit p pointer b (w + f)) → Reference p t b (get_or a (w + f) 0)

-- the words of block `at`, 64 words of the arena, whose bit is on in `pointers` hold references
abbrev pub BlockContents : ℕ → List ℕ → List ℕ → List ℕ → ℕ → ℕ → Type 0
BlockContents p a t b at pointers = (j : ℕ) → j < word_bits → T (bit_of pointers j == 1) → Reference p t b (get_or a (word_bits * at + j) 0)

-- the pointer words of blocks `from` to `to` - 1 hold references
abbrev pub BlocksContents : ℕ → List ℕ → List ℕ → List ℕ → ℕ → ℕ → Type 0
BlocksContents p a t b from to = (w : ℕ) → word_bits * from ≤ w → w < word_bits * to → T (bit p pointer b w) → Reference p t b (get_or a w 0)

-- so do those of the kept elements of the span at page s
abbrev pub SpanContents : ℕ → List ℕ → List ℕ → List ℕ → ℕ → Type 0
SpanContents p a t b s =
    (w : ℕ) → first_word s ≤ w → w < first_word (s + page_count t s) → T (kept_at p t b w) → Pointers p a t b w (element_words t s)

-- "every pointer word of a kept element, is nil or the address of a kept element"
abbrev pub Contents : ℕ → List ℕ → List ℕ → List ℕ → Type 0
Contents p a t b = (w : ℕ) → T (bit p pointer b w) → T (kept_at p t b (element_of t w)) → Reference p t b (get_or a w 0)

-- an element of n words starts at word w
pub record ElementAt (p : ℕ) (t : List ℕ) (w n : ℕ) : Type 0 where
  pub element : Element t w
  pub size : n ≡ element_words t (span_of t w)
  pub inside : w + n ≤ page_words * p

-- the kept elements, of n words each, of the span at page s have their bits from `from` on, and before `end`
pub record Searched (p : ℕ) (t : List ℕ) (s n from end : ℕ) : Type 0 where
  pub span : IsSpan t s
  pub size : n ≡ element_words t s
  pub start : from ≡ kept_from p (is_unswept t s)
  pub stop : end ≡ from + first_word (s + page_count t s)
  pub low : from ≤ page_words * p
  pub inside : s + page_count t s ≤ p

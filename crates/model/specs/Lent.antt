-- What several functions require of the contents of the buffers that they are lent, where it is not a whole heap: each requirement under one name.
use Rattle.std.specs.Prelude.{ℕ, ◌+◌, ◌*◌, ◌%◌, ◌<◌, ◌≤◌, Bool, true, cond, List, ◌≡◌, length, get_or, ◌==◌}
use Rattle.model.specs.Memory.{max_pages, word_bits, entry_numbers, kind_offset, unswept_flag, bitmap_words, root_words, first_state, page_of}
use Rattle.model.specs.Bitmaps.{bit_of}
use Rattle.model.specs.Spans.{kind_entry, span_of}
use Rattle.model.specs.Facts.{Spans, IsSpan, Bits, Reference}

-- the roots, by their length
abbrev pub Roots : List ℕ → Type 0
Roots r = length r ≡ root_words

-- a page table of p pages, by its length
abbrev pub PageTable : ℕ → List ℕ → Type 0
PageTable p t = length t ≡ entry_numbers * p

-- page g has its entry in the table
abbrev pub HasEntry : List ℕ → ℕ → Type 0
HasEntry t g = entry_numbers * g + kind_offset < length t

-- so have the page and the span that word w lies in
pub record WordEntries (t : List ℕ) (w : ℕ) : Type 0 where
  pub page : HasEntry t (page_of w)
  pub span : HasEntry t (span_of t w)

-- bitmaps of p pages
pub record Bitmaps (p : ℕ) (b : List ℕ) : Type 0 where
  pub few : p ≤ max_pages
  pub bits : length b ≡ bitmap_words * p

-- a mask of the bits at which elements of this size start, in a word whose lowest bit starts one
abbrev pub StartsMask : ℕ → ℕ → Type 0
StartsMask size mask = (j : ℕ) → j < word_bits → bit_of mask j ≡ cond (j % size == 0) 1 0

-- a page table and bitmaps of p pages
pub record Tables (p : ℕ) (t b : List ℕ) : Type 0 where
  pub few : p ≤ max_pages
  pub table : PageTable p t
  pub bits : length b ≡ bitmap_words * p

-- .. with spans as the audit has them
pub record Mapped (p : ℕ) (t b : List ℕ) : Type 0 where
  pub few : p ≤ max_pages
  pub table : PageTable p t
  pub bits : length b ≡ bitmap_words * p
  pub spans : Spans p t

-- .. of which one starts at page s
pub record MappedSpan (p : ℕ) (t b : List ℕ) (s : ℕ) : Type 0 where
  pub few : p ≤ max_pages
  pub table : PageTable p t
  pub bits : length b ≡ bitmap_words * p
  pub spans : Spans p t
  pub first : IsSpan t s

-- a page table and bitmaps of p pages, with spans and bits as the audit has them
pub record Consistent (p : ℕ) (t b : List ℕ) : Type 0 where
  pub few : p ≤ max_pages
  pub table : PageTable p t
  pub bits : length b ≡ bitmap_words * p
  pub spans : Spans p t
  pub rules : Bits p t b

-- no span is unswept
abbrev pub AllSwept : List ℕ → Type 0
AllSwept t = (s : ℕ) → IsSpan t s → kind_entry t s < unswept_flag

-- what `swept` tells a test
abbrev pub Told : Bool → List ℕ → Type 0
Told swept t = swept ≡ true → AllSwept t

-- every slot and every global is nil or the address of a kept element
abbrev pub RootReferences : ℕ → List ℕ → List ℕ → List ℕ → Type 0
RootReferences p t b r = (i : ℕ) → i < first_state → Reference p t b (get_or r i 0)

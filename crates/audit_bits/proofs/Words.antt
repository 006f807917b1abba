-- What the audit says of the bits of one arena word: the records `Bits` and `Phases` of the model, at that word; and of the words of a stretch of pages.
use Prim.Native.Nat.{ℕ, ◌+◌, ◌-◌, ◌<◌, ◌≤◌}
use mathlib.Core.List.{List}
use mathlib.Core.Logic.{◌≢◌}
use mathlib.Core.Path.{◌≡◌}
use lib.Dec.{T}
use Rattle.model.specs.Memory.{first_word, off, mark, sweep}
use Rattle.model.specs.Bitmaps.{allocated, marked, gray, pointer}
use Rattle.model.specs.Spans.{span_of, element_of}
use Rattle.model.specs.Facts.{IsSpan, InElement, Element, bit, scan_at, unswept_at}
use Rattle.audit_pages.proofs.Stretches.{stretch}

pub record WordBits (P phase : ℕ) (t b : List ℕ) (w : ℕ) : Type 0 where
  pub element : T (bit P allocated b w) → Element t w
  pub marks : T (bit P marked b w) → T (bit P allocated b w) × (phase ≢ off) × (phase ≡ sweep → T (unswept_at t w))
  pub grays : T (bit P gray b w) → T (bit P marked b w) × T (scan_at t w) × (phase ≡ mark)
  pub pointers : T (bit P pointer b w) → InElement t w × T (scan_at t w) × T (bit P allocated b (element_of t w))
  pub head : T (bit P allocated b w) → T (scan_at t w) → T (bit P pointer b w)
  pub unbroken : T (bit P pointer b w) → element_of t w ≢ w → T (bit P pointer b (w - 1))

-- the words from one on, up to another
abbrev pub GoodWords : ℕ → ℕ → List ℕ → List ℕ → ℕ → ℕ → Type 0
GoodWords P phase t b from to = (w : ℕ) → from ≤ w → w < to → WordBits P phase t b w

-- a span at page s has an allocated word
abbrev pub Used : ℕ → List ℕ → List ℕ → ℕ → Type 0
Used P t b s = IsSpan t s → (w : ℕ) × T (bit P allocated b w) × (span_of t w ≡ s)

-- the words of page g, a free one, or of the span that starts there have the bits that the audit allows, and a span an allocated one
pub record GoodStretch (P phase : ℕ) (t b : List ℕ) (g : ℕ) : Type 0 where
  pub words : GoodWords P phase t b (first_word g) (first_word (g + stretch t g))
  pub used : Used P t b g

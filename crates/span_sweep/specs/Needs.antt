-- What the functions that sweep one span require of the buffers, and what the sweep of one span comes to: what it answers, the page table and the
-- bitmaps afterwards. Both are said by the model's definitions, for any heap that has these page table and bitmaps.
use Rattle.std.specs.Prelude.{ℕ, ◌*◌, cond, ◌&&◌, List, ◌≡◌}
use Rattle.model.specs.Memory.{Heap, lent, page_words, first_word}
use Rattle.model.specs.Bitmaps.{bit_in, put_bits, marked, pointer}
use Rattle.model.specs.Spans.{page_count, element_start, element_number}
use Rattle.model.specs.Cycle.{freed_count, nothing_left, swept_table, swept_bits}
use Rattle.model.specs.Facts.{IsSpan}
use Rattle.model.specs.Lent.{Consistent}
use Rattle.model.specs.Promises.{Borrowed, Buffer}
use Rattle.page_table.specs.Span.{Reads}
use Rattle.page_table.specs.declared.Span.{Span}
use Rattle.span_sweep.specs.declared.SpanSwept.{SpanSwept}

-- a span that starts at page s, in a page table and bitmaps of p pages that pass the audit
pub record Sweepable (p : ℕ) (t b : List ℕ) (s : ℕ) : Type 0 where
  pub consistent : Consistent p t b
  pub starts : IsSpan t s

-- .. as it is read
pub record SpanRead (p : ℕ) (t b : List ℕ) (span : Span) : Type 0 where
  pub sweepable : Sweepable p t b span.start.0
  pub reads : Reads t span.start.0 span

-- What is lent the bitmaps and given a span is not lent the page table: it asks for some table that the span is read from
abbrev pub LentSpan : ℕ → Borrowed → Span → Type 0
LentSpan p bits span = (t : List ℕ) × SpanRead p t bits span

-- a pointer bit of the span at page s stays where the element that it lies in is marked
abbrev pub cleared_bits : ℕ → List ℕ → List ℕ → ℕ → List ℕ
cleared_bits p t b s =
    put_bits (page_words * p) pointer (first_word s) (page_words * page_count t s)
    (λ w. bit_in (page_words * p) pointer b w && bit_in (page_words * p) marked b (element_start t s (element_number t s w))) b

-- what is left of the bitmaps once they are cleared so, by any table that the span is read from
abbrev pub ClearsFreed : ℕ → Buffer → Span → Type 0
ClearsFreed p bits span = (t : List ℕ) → SpanRead p t bits.entry span → bits.exit ≡ cleared_bits p t bits.entry span.start.0

-- the sweep of the span at page s: the elements freed, the pages returned, the page table and the bitmaps afterwards
pub record SweepsSpan (h : Heap) (s : ℕ) (r : SpanSwept) (t b : List ℕ) : Type 0 where
  pub freed : r.freed ≡ freed_count h s
  pub returned : r.returned ≡ cond (nothing_left h s) (page_count h.table s) 0
  pub table : t ≡ swept_table h s
  pub bits : b ≡ swept_bits h s

-- .. of lent buffers, for every arena and all roots
abbrev pub SweepsLentSpan : ℕ → Buffer → Buffer → ℕ → SpanSwept → Type 0
SweepsLentSpan p table bits s r =
    (a roots : List ℕ) → SweepsSpan (lent p a table.entry bits.entry roots) s r table.exit bits.exit

-- What the functions that write entries require of the page table.
use Rattle.std.specs.Prelude.{ℕ, ◌+◌, ◌*◌, ◌<◌, ◌≤◌, List, length}
use Rattle.model.specs.Memory.{max_pages, entry_numbers, unswept_flag}
use Rattle.model.specs.Spans.{kind_entry}
use Rattle.model.specs.Facts.{IsSpan}
use Rattle.model.specs.Lent.{PageTable, HasEntry}
use Rattle.page_table.specs.Span.{Reads}
use Rattle.page_table.specs.declared.Span.{Span}

-- the n pages from page s on have their entries in t
abbrev pub HasEntries : List ℕ → ℕ → ℕ → Type 0
HasEntries t s n = entry_numbers * (s + n) ≤ length t

-- .. and a span of them can be made: its numbers have 32 bits
pub record NewEntries (t : List ℕ) (s n : ℕ) : Type 0 where
  pub few : s + n ≤ max_pages
  pub entries : HasEntries t s n

-- a span starts at page s of t
pub record SpanEntry (t : List ℕ) (s : ℕ) : Type 0 where
  pub entry : HasEntry t s
  pub first : IsSpan t s

-- .. and is read
pub record ReadEntry (t : List ℕ) (span : Span) : Type 0 where
  pub starts : SpanEntry t span.start.0
  pub reads : Reads t span.start.0 span

-- the kinds of the spans of t, a table of p pages, leave room for the unswept flag in 32 bits
pub record Flaggable (p : ℕ) (t : List ℕ) : Type 0 where
  pub table : PageTable p t
  pub room : (s : ℕ) → s < p → IsSpan t s → kind_entry t s + unswept_flag < 4294967296

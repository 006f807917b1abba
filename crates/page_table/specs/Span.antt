-- A span as its first page's entry describes it.
use Rattle.std.specs.Prelude.{ℕ, ◌^◌, ◌<◌, List, ◌≡◌}
use Rattle.model.specs.Spans.{page_count, kind_entry, kind_at, class_at, is_scan, is_unswept}
use Rattle.page_table.specs.declared.Span.{Span}

-- what the fields of a span that starts at page s of t say
pub record Reads (t : List ℕ) (s : ℕ) (r : Span) : Type 0 where
  pub start : r.start.0 ≡ s
  pub pages : r.pages ≡ page_count t s
  pub flagged : r.flagged ≡ kind_entry t s
  pub kind : r.kind ≡ kind_at t s
  pub class : r.class ≡ class_at t s
  pub scan : r.scan ≡ is_scan t s
  pub unswept : r.unswept ≡ is_unswept t s
  -- a page count of the table has 32 bits
  pub narrow : r.pages < 2 ^ 32

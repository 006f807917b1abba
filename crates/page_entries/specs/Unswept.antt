-- What the search for an unswept span finds.
use Rattle.std.specs.Prelude.{ℕ, ◌<◌, ◌≤◌, true, false, ◌&&◌, List, Option, Some, None, ◌≡◌}
use Rattle.model.specs.Spans.{starts_span, is_unswept}
use Rattle.model.specs.Cycle.{first_unswept}
use Rattle.page_table.specs.Span.{Reads}
use Rattle.page_table.specs.declared.Span.{Span}

-- the unswept span that starts at page s of t, if one does
abbrev pub UnsweptAt : List ℕ → ℕ → Option Span → Type 0
UnsweptAt t s (Some span) = ((starts_span t s && is_unswept t s) ≡ true) × Reads t s span
UnsweptAt t s None = (starts_span t s && is_unswept t s) ≡ false

-- the first one of t, a table of p pages, if there is one
abbrev pub FirstUnswept : ℕ → List ℕ → Option Span → Type 0
FirstUnswept p t (Some span) = (first_unswept p t < p) × Reads t (first_unswept p t) span
FirstUnswept p t None = p ≤ first_unswept p t

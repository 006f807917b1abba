-- The table with another kind for the span that starts at page s.
use Rattle.std.specs.Prelude.{ℕ, List}
use Rattle.model.specs.Spans.{page_count, kind_at, put_page, span_page}

-- the kind as it is given, with or without the unswept flag
abbrev pub with_kind : ℕ → ℕ → List ℕ → List ℕ
with_kind s kind t = put_page s (span_page s (page_count t s) kind s) t

-- the span's own kind, without the flag
abbrev pub made_swept : ℕ → List ℕ → List ℕ
made_swept s t = with_kind s (kind_at t s) t

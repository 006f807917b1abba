-- Where the span at page s lies, and what its entry says, as the code's bounds want it.
use Prim.Native.Nat.{ℕ, ◌+◌, ◌/◌, ◌%◌, ◌<◌, ◌≤◌}
use mathlib.Core.List.{List}
use mathlib.Core.Path.{sym, subst}
use native.Mathlib.Omega.{arith}
use Rattle.model.specs.Classes.{rows}
use Rattle.model.specs.Memory.{unswept_flag}
use Rattle.model.specs.Spans.{page_count, kind_entry}
use Rattle.model.specs.Lent.{Tables}
use Rattle.model.proofs.Spans.{fits}
use Rattle.model.proofs.Lent.{consistent_tables}
use Rattle.page_table.specs.Span.{Reads}
use Rattle.page_table.specs.declared.Span.{Span}
use Rattle.span_sweep.specs.Needs.{Sweepable, SpanRead}

pub record SpanBounds (p : ℕ) (t b : List ℕ) (s : ℕ) : Type 0 where
  pub tables : Tables p t b
  pub some : 0 < page_count t s
  pub inside : s + page_count t s ≤ p
  pub class : kind_entry t s % unswept_flag / 2 ≤ rows

pub bounds : {p : ℕ} {t b : List ℕ} {s : ℕ} → Sweepable p t b s → SpanBounds p t b s
bounds {p} {t} {b} {s} S =
    let C = S.consistent in
    record { tables = consistent_tables C; some = (fits C.spans s S.starts).pages; inside = C.spans.inside s S.starts; class = omega (arith, (C.spans.entry s S.starts).kind) }

-- a span that is read from the table
pub span_read : {p : ℕ} {t b : List ℕ} {s : ℕ} (span : Span) → Sweepable p t b s → Reads t s span → SpanRead p t b span
span_read {p} {t} {b} {s} span S R = record { sweepable = rw R.start S; reads = subst (λ x. Reads t x span) (sym R.start) R }

-- The invariant: the first k pages' entries are written.
use mathlib.Core.Path.{◌≡◌}
use Rattle.model.specs.Spans.{span_page, put_pages}
use Rattle.page_entries.proofs.write_span.Given as goal

abbrev pub invariant-loop-k : goal.invariant-loop-k
invariant-loop-k l = l.table ≡ put_pages l.first l.k (span_page l.first l.n l.kind) l.fn.table

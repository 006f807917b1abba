-- The invariant: the entries of the first k pages are written.
use mathlib.Core.Path.{◌≡◌}
use Rattle.model.specs.Spans.{free_page, put_pages}
use Rattle.page_entries.proofs.free_span.Given as goal

abbrev pub invariant-loop-k : goal.invariant-loop-k
invariant-loop-k l = l.table ≡ put_pages l.s.0 l.k (λ g. free_page) l.fn.table

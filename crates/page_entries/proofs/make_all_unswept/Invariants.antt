-- The invariant: the entries below `page` are written.
use mathlib.Core.Path.{◌≡◌}
use Rattle.model.specs.Spans.{put_pages}
use Rattle.model.specs.Cycle.{unswept_page}
use Rattle.page_entries.proofs.make_all_unswept.Given as goal

abbrev pub invariant-loop-page : goal.invariant-loop-page
invariant-loop-page l = l.table ≡ put_pages 0 l.page (unswept_page l.fn.table) l.fn.table

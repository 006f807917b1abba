-- `heap_alloc`: the entry check, then the audited call; the answer of either is written out.
use mathlib.Core.Path.{sym}
use Rattle.model.proofs.Checks.{entry_passed}
use Rattle.c_records.proofs.heap_alloc.Goals as goal

pub allocate-answer-requires : goal.allocate-answer-requires
allocate-answer-requires c = entry_passed _ (sym c.in_default.ensures)

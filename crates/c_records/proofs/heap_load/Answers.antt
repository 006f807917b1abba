-- `heap_load`: the entry check, then the audited call; the answer of either is written out.
use mathlib.Core.Path.{sym}
use Rattle.model.proofs.Checks.{entry_passed}
use Rattle.c_records.proofs.heap_load.Goals as goal

pub load-answer-requires : goal.load-answer-requires
load-answer-requires c = entry_passed _ (sym c.in_default.ensures)

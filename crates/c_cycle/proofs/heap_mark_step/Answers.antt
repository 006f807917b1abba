-- `heap_mark_step`: the entry check, then the audited call; the answer of either is written out.
use mathlib.Core.Path.{sym}
use Rattle.model.proofs.Checks.{entry_passed}
use Rattle.c_cycle.proofs.heap_mark_step.Goals as goal

pub mark_step-answer-requires : goal.mark_step-answer-requires
mark_step-answer-requires c = entry_passed _ (sym c.in_default.ensures)

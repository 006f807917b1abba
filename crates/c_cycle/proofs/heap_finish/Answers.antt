-- `heap_finish`: the entry check, then the audited call; the answer of either is written out.
use mathlib.Core.Path.{sym}
use Rattle.model.proofs.Checks.{entry_passed}
use Rattle.c_cycle.proofs.heap_finish.Goals as goal

pub finish-answer-requires : goal.finish-answer-requires
finish-answer-requires c = (_, entry_passed _ (sym c.in_default.ensures))

-- `heap_start`: the entry check, then the audited call; the answer of either is written out.
use mathlib.Core.Path.{sym}
use Rattle.model.proofs.Checks.{entry_passed}
use Rattle.c_cycle.proofs.heap_start.Goals as goal

pub start-answer-requires : goal.start-answer-requires
start-answer-requires c = (entry_passed _ (sym c.in_default.ensures)).sized.roots

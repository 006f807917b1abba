-- `heap_clear`: the entry check, then the audited call; the answer of either is written out.
use mathlib.Core.Path.{sym}
use Rattle.model.proofs.Checks.{entry_passed}
use Rattle.c_stacks.proofs.heap_clear.Goals as goal

pub clear-answer-requires : goal.clear-answer-requires
clear-answer-requires c = (entry_passed _ (sym c.in_default.ensures)).sized.roots

-- `heap_open`: the entry check, then the audited call; the answer of either is written out.
use mathlib.Core.Path.{sym}
use Rattle.model.proofs.Checks.{entry_passed}
use Rattle.c_stacks.proofs.heap_open.Goals as goal

pub open_stack-answer-requires : goal.open_stack-answer-requires
open_stack-answer-requires c = (entry_passed _ (sym c.in_default.ensures)).sized.roots

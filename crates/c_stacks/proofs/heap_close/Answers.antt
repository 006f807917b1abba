-- `heap_close`: the entry check, then the audited call; the answer of either is written out.
use mathlib.Core.Path.{sym}
use Rattle.model.proofs.Checks.{entry_passed}
use Rattle.c_stacks.proofs.heap_close.Goals as goal

pub close_stack-answer-requires : goal.close_stack-answer-requires
close_stack-answer-requires c = (entry_passed _ (sym c.in_default.ensures)).sized.roots

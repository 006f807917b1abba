-- `heap_load_global`: the entry check, then the audited call; the answer of either is written out.
use mathlib.Core.Path.{sym}
use Rattle.model.proofs.Checks.{entry_passed}
use Rattle.c_stacks.proofs.heap_load_global.Goals as goal

pub load_global-answer-requires : goal.load_global-answer-requires
load_global-answer-requires c = (entry_passed _ (sym c.in_default.ensures)).sized.roots

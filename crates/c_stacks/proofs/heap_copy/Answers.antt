-- `heap_copy`: the entry check, then the audited call; the answer of either is written out.
use mathlib.Core.Path.{sym}
use Rattle.model.proofs.Checks.{entry_passed}
use Rattle.c_stacks.proofs.heap_copy.Goals as goal

pub copy-answer-requires : goal.copy-answer-requires
copy-answer-requires c = (entry_passed _ (sym c.in_default.ensures)).sized.roots

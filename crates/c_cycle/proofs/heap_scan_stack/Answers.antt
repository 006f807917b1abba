-- `heap_scan_stack`: the entry check, then the audited call; the answer of either is written out.
use mathlib.Core.Path.{sym}
use Rattle.model.proofs.Checks.{entry_passed}
use Rattle.c_cycle.proofs.heap_scan_stack.Goals as goal

pub scan_stack-answer-requires : goal.scan_stack-answer-requires
scan_stack-answer-requires c = (_, entry_passed _ (sym c.in_default.ensures))

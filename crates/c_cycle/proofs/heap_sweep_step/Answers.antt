-- `heap_sweep_step`: the entry check, then the audited call; the answer of either is written out.
use mathlib.Core.Path.{sym}
use Rattle.model.proofs.Checks.{entry_passed}
use Rattle.c_cycle.proofs.heap_sweep_step.Goals as goal

pub sweep_step-answer-requires : goal.sweep_step-answer-requires
sweep_step-answer-requires c = (_, entry_passed _ (sym c.in_default.ensures))

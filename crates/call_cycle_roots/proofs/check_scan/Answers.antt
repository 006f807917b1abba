-- The phase, then the stack.
use native.Mathlib.Omega.{arith}
use Rattle.root_checks.proofs.Passed.{and_row}
use Rattle.call_cycle_roots.proofs.check_scan.Goals as goal

pub returns-clause-refusal : goal.returns-clause-refusal
returns-clause-refusal c = λ p a t b. let x = c.check_phase.ensures p a t b in let y = c.check_open.ensures.refusal p a t b in grind (arith, and_row)

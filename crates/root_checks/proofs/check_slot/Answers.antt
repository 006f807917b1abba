use native.Mathlib.Omega.{arith}
use Rattle.root_checks.proofs.Passed.{rows}
use Rattle.root_checks.proofs.check_slot.Goals as goal

pub returns-clause-refusal : goal.returns-clause-refusal
returns-clause-refusal c = λ p a t b. grind (arith, rows, c.check_open.ensures.refusal p a t b)

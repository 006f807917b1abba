use native.Mathlib.Omega.{arith}
use Rattle.root_checks.proofs.Passed.{rows}
use Rattle.root_checks.proofs.check_slots.Goals as goal

pub returns-clause-refusal : goal.returns-clause-refusal
returns-clause-refusal c = λ p a t b. grind (arith, rows, c.check_slot.ensures.refusal p a t b)

use mathlib.Core.Path.{◌∙◌}
use native.Mathlib.Omega.{arith}
use lib.Dec.{eqb}
use Rattle.model.specs.Memory.{first_state, stack_count, gray_state}
use Rattle.call_cycle_marks.proofs.Finishing.{some_of}
use Rattle.call_cycle_marks.proofs.some_gray.Goals as goal

pub returns : goal.returns
returns c = c.contains.ensures.value ∙ some_of (λ state. eqb state gray_state) first_state stack_count c.args.roots.now (omega arith)

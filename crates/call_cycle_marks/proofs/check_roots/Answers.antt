use native.Mathlib.Omega.{arith}
use Rattle.model.specs.Answers.{◌given◌}
use Rattle.std.proofs.lemmas.Bool.Decides.{nat_tests}
use Rattle.call_cycle_marks.proofs.check_roots.Goals as goal

pub returns-then-some_gray : goal.returns-then-some_gray
unfolding ◌given◌
returns-then-some_gray c = λ p a t b. grind (arith, nat_tests)

pub returns : goal.returns
unfolding ◌given◌
returns c = λ p a t b. grind (arith, nat_tests)

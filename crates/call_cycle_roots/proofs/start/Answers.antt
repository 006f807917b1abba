-- Refused, or every open stack and the globals gray.
use mathlib.Core.Path.{sym}
use Rattle.model.specs.Memory.{lent}
use Rattle.model.specs.Cycle.{start}
use Rattle.model.proofs.Outcomes.{not_refused}
use Rattle.root_checks.proofs.Passed.{call_refused}
use Rattle.call_cycle_roots.proofs.start.Goals as goal

pub returns-in_err-check_phase : goal.returns-in_err-check_phase
unfolding start
returns-in_err-check_phase c = λ p a t b. call_refused _ _ c.from_residual.ensures.1 (lent p a t b c.args.roots.now) (c.in_err-check_phase.ensures p a t b) _ _

pub returns : goal.returns
unfolding start
returns c = λ p a t b. rw c.gray_stacks.ensures (not_refused _ (lent p a t b c.args.roots.now) _ _ (sym (c.in_ok-check_phase.ensures p a t b)))

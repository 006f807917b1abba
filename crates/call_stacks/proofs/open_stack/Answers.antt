-- Refused, or what `empty` leaves.
use mathlib.Core.Path.{sym}
use Rattle.model.specs.Memory.{lent}
use Rattle.model.specs.Records.{open_stack, emptied}
use Rattle.model.proofs.Outcomes.{not_refused}
use Rattle.root_checks.proofs.Passed.{call_refused}
use Rattle.call_stacks.proofs.open_stack.Goals as goal

pub returns-in_err-check_closed : goal.returns-in_err-check_closed
unfolding open_stack
returns-in_err-check_closed c = λ p a t b. call_refused _ _ c.from_residual.ensures.1 (lent p a t b _) (c.in_err-check_closed.ensures.refusal p a t b) _ _

pub returns : goal.returns
unfolding open_stack emptied
returns c = λ p a t b. rw (c.empty.ensures p a t b) (not_refused _ (lent p a t b _) _ _ (sym (c.in_ok-check_closed.ensures.refusal p a t b)))

-- Refused, or one slot set.
use mathlib.Core.Path.{sym}
use Rattle.model.specs.Memory.{lent}
use Rattle.model.specs.Records.{clear}
use Rattle.model.proofs.Outcomes.{not_refused}
use Rattle.root_checks.proofs.Passed.{call_refused}
use Rattle.call_stacks.proofs.clear.Goals as goal

pub returns-in_err-check_slot : goal.returns-in_err-check_slot
unfolding clear
returns-in_err-check_slot c = λ p a t b. call_refused _ _ c.from_residual.ensures.1 (lent p a t b _) (c.in_err-check_slot.ensures.refusal p a t b) _ _

pub returns : goal.returns
unfolding clear
returns c = λ p a t b. rw c.slot_at-at.ensures (not_refused _ (lent p a t b _) _ _ (sym (c.in_ok-check_slot.ensures.refusal p a t b)))

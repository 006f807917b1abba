-- Refused, or one slot set.
use mathlib.Core.Path.{sym}
use Rattle.model.specs.Memory.{lent}
use Rattle.model.specs.Records.{copy}
use Rattle.model.proofs.Outcomes.{not_refused}
use Rattle.root_checks.proofs.Passed.{call_refused}
use Rattle.call_stacks.proofs.copy.Goals as goal

pub returns-in_err-check_slots : goal.returns-in_err-check_slots
unfolding copy
returns-in_err-check_slots c = λ p a t b. call_refused _ _ c.from_residual.ensures.1 (lent p a t b _) (c.in_err-check_slots.ensures.refusal p a t b) _ _

pub returns : goal.returns
unfolding copy
returns c = λ p a t b. rw (c.slot_at-to.ensures, c.slot_at-from.ensures) (not_refused _ (lent p a t b _) _ _ (sym (c.in_ok-check_slots.ensures.refusal p a t b)))

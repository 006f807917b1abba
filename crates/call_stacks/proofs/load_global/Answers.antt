-- Refused, or one slot set.
use mathlib.Core.Path.{sym}
use Rattle.model.specs.Memory.{lent}
use Rattle.model.specs.Records.{load_global}
use Rattle.model.proofs.Outcomes.{not_refused}
use Rattle.root_checks.proofs.Passed.{call_refused}
use Rattle.call_stacks.proofs.load_global.Goals as goal

pub returns-in_err-check_global : goal.returns-in_err-check_global
unfolding load_global
returns-in_err-check_global c = λ p a t b. call_refused _ _ c.from_residual.ensures.1 (lent p a t b _) (c.in_err-check_global.ensures.refusal p a t b) _ _

pub returns : goal.returns
unfolding load_global
returns c = λ p a t b. rw c.slot_at-slot.ensures (not_refused _ (lent p a t b _) _ _ (sym (c.in_ok-check_global.ensures.refusal p a t b)))

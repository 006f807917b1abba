-- Refused, or the global set after the barrier.
use mathlib.Core.Path.{sym}
use native.Mathlib.Omega.{arith}
use Rattle.model.specs.Memory.{lent}
use Rattle.model.specs.Records.{store_global}
use Rattle.model.proofs.Outcomes.{not_refused}
use Rattle.root_checks.proofs.Passed.{call_refused}
use Rattle.call_records.proofs.Accesses.{roots_stored}
use Rattle.call_records.proofs.store_global.Goals as goal

pub returns-in_err-check_global : goal.returns-in_err-check_global
unfolding store_global
returns-in_err-check_global c = λ a. call_refused _ _ c.from_residual.ensures.1 (lent c.args.p a _ _ _) (c.in_err-check_global.ensures.refusal _ a _ _) _ _

pub barrier-requires : goal.barrier-requires
barrier-requires c = let b = c.in_ok-check_global.ensures.within in roots_stored c.requires.1 _ _ (omega (arith, b)) (omega (arith, b))

pub returns : goal.returns
unfolding store_global
returns c = λ a. rw (c.barrier.ensures a, c.slot_at-slot.ensures) (not_refused _ (lent c.args.p a _ _ _) _ _ (sym (c.in_ok-check_global.ensures.refusal _ a _ _)))

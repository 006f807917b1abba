-- Refused, or every span unswept.
use mathlib.Core.Path.{sym}
use Rattle.model.specs.Memory.{lent}
use Rattle.model.specs.Cycle.{finish}
use Rattle.model.proofs.Outcomes.{not_refused}
use Rattle.root_checks.proofs.Passed.{call_refused}
use Rattle.call_cycle_marks.proofs.Finishing.{flaggable}
use Rattle.call_cycle_marks.proofs.finish.Goals as goal

pub returns-in_err-check_finish : goal.returns-in_err-check_finish
unfolding finish
returns-in_err-check_finish c =
    let e = c.args in
    λ a. call_refused _ _ c.from_residual.ensures.1 (lent e.p a e.table.now e.bits.now e.roots.now) (c.in_err-check_finish.ensures a e.table.now) _ _

pub make_all_unswept-requires : goal.make_all_unswept-requires
make_all_unswept-requires c = flaggable c.requires.1

pub returns : goal.returns
unfolding finish
returns c =
    let e = c.args in
    λ a. rw c.make_all_unswept.ensures (not_refused _ (lent e.p a e.table.now e.bits.now e.roots.now) _ _ (sym (c.in_ok-check_finish.ensures a e.table.now)))

-- Refused, none is gray, or the lowest gray record scanned.
use Rattle.model.specs.Memory.{lent}
use Rattle.model.specs.Cycle.{mark_step}
use Rattle.root_checks.proofs.Passed.{call_refused}
use Rattle.call_cycle_marks.proofs.Marking.{first_is_gray, step_none, step_done}
use Rattle.call_cycle_marks.proofs.mark_step.Goals as goal

pub returns-in_err-check_phase : goal.returns-in_err-check_phase
unfolding mark_step
returns-in_err-check_phase c =
    let a = c.args in
    call_refused _ _ c.from_residual.ensures.1 (lent a.p a.arena.now a.table.now a.bits.now a.roots.now) (c.in_err-check_phase.ensures a.p a.arena.now a.table.now a.bits.now) _ _

pub returns-in_default : goal.returns-in_default
returns-in_default c =
    let a = c.args in
    step_none (lent a.p a.arena.now a.table.now a.bits.now a.roots.now) (c.in_ok-check_phase.ensures a.p a.arena.now a.table.now a.bits.now)
    (c.in_default.ensures a.arena.now a.table.now a.roots.now)

pub scan_record-requires : goal.scan_record-requires
scan_record-requires c =
    let a = c.args in
    let found = c.in-Some.ensures a.arena.now a.table.now a.roots.now in
    (a.roots.now, first_is_gray c.requires (c.in_ok-check_phase.ensures a.p a.arena.now a.table.now a.bits.now) found.0 found.1)

pub returns : goal.returns
returns c =
    let a = c.args in
    let found = c.in-Some.ensures a.arena.now a.table.now a.roots.now in
    step_done (lent a.p a.arena.now a.table.now a.bits.now a.roots.now) (c.in_ok-check_phase.ensures a.p a.arena.now a.table.now a.bits.now) found.0 found.1
    c.address-record.ensures (c.scan_record.ensures a.roots.now)

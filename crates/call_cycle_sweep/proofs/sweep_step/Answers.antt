-- Refused, ended, or the first unswept span swept.
use native.Mathlib.Omega.{arith}
use Rattle.model.specs.Memory.{lent}
use Rattle.model.specs.Cycle.{sweep_step}
use Rattle.root_checks.proofs.Passed.{call_refused}
use Rattle.span_sweep.proofs.Bounds.{bounds}
use Rattle.call_cycle_sweep.proofs.SweepStep.{readable, step_ended, step_swept}
use Rattle.call_cycle_sweep.proofs.sweep_step.Goals as goal

pub returns-in_err-check_phase : goal.returns-in_err-check_phase
unfolding sweep_step
returns-in_err-check_phase c =
    let e = c.args in
    λ a. call_refused _ _ c.from_residual.ensures.1 (lent e.p a e.table.now e.bits.now e.roots.now) (c.in_err-check_phase.ensures e.p a e.table.now e.bits.now) _ _

pub returns-in_default : goal.returns-in_default
returns-in_default c =
    let e = c.args in
    λ a. step_ended (lent e.p a e.table.now e.bits.now e.roots.now) (c.in_ok-check_phase.ensures e.p a e.table.now e.bits.now) c.in_default.ensures

pub overflow_add-start : goal.overflow_add-start
overflow_add-start c = omega (arith, bounds (readable c.requires.1 c.in-Some.ensures).sweepable)

pub sweep-swept-requires : goal.sweep-swept-requires
sweep-swept-requires c = readable c.requires.1 c.in-Some.ensures

pub returns : goal.returns
returns c =
    let e = c.args in
    λ a. step_swept (lent e.p a e.table.now e.bits.now e.roots.now) (c.in_ok-check_phase.ensures e.p a e.table.now e.bits.now) c.in-Some.ensures (c.sweep-swept.ensures a e.roots.now)

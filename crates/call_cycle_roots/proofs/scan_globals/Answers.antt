-- Refused, or the globals scanned.
use native.Mathlib.Omega.{arith}
use Rattle.model.specs.Memory.{lent}
use Rattle.model.specs.Cycle.{scan_globals}
use Rattle.root_checks.proofs.Passed.{call_refused}
use Rattle.call_cycle_roots.proofs.Scanning.{scannable}
use Rattle.call_cycle_roots.proofs.scan_globals.Goals as goal

pub returns-in_err-check_phase : goal.returns-in_err-check_phase
unfolding scan_globals
returns-in_err-check_phase c =
    let e = c.args in
    λ a. call_refused _ _ c.from_residual.ensures.1 (lent e.p a e.table.now e.bits.now e.roots.now) (c.in_err-check_phase.ensures e.p a e.table.now e.bits.now) _ _

pub scan-requires : goal.scan-requires
scan-requires c = scannable c.requires.1 _ _ _ (omega arith) (omega arith)

pub returns : goal.returns
unfolding scan_globals
returns c =
    let e = c.args in
    λ a. rw (← c.in_ok-check_phase.ensures e.p a e.table.now e.bits.now) (c.scan.ensures a)

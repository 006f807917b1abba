-- Refused, or the stack's slots scanned.
use native.Mathlib.Omega.{arith}
use Rattle.model.specs.Memory.{lent}
use Rattle.model.specs.Cycle.{scan_stack}
use Rattle.root_checks.proofs.Passed.{call_refused}
use Rattle.call_cycle_roots.proofs.Scanning.{scannable}
use Rattle.call_cycle_roots.proofs.scan_stack.Goals as goal

pub returns-in_err-check_scan : goal.returns-in_err-check_scan
unfolding scan_stack
returns-in_err-check_scan c =
    let e = c.args in
    λ a. call_refused _ _ c.from_residual.ensures.1 (lent e.p a e.table.now e.bits.now e.roots.now) (c.in_err-check_scan.ensures.refusal e.p a e.table.now e.bits.now) _ _

pub scan-requires : goal.scan-requires
scan-requires c = scannable c.requires.1 _ _ _ (omega (arith, c.in_ok-check_scan.ensures.within)) (omega (arith, c.in_ok-check_scan.ensures.within))

pub returns : goal.returns
unfolding scan_stack
returns c =
    let e = c.args in
    λ a. rw (← c.in_ok-check_scan.ensures.refusal e.p a e.table.now e.bits.now) (c.scan.ensures a)

use native.Mathlib.Omega.{arith}
use borrow.Author.Tests.{le-ltb, ltb-false}
use Rattle.room_sweeps.proofs.Loop.{begun, still, goes_on}
use Rattle.room_sweeps.proofs.Same.{same_first, same_on}
use Rattle.room_sweeps.proofs.Turns.{any_steady, no_run, found_run, no_more_runs}
use Rattle.room_sweeps.proofs.Tables.sweep_pages.Goals as goal

pub loop-s-init : goal.loop-s-init
loop-s-init c = (same_first, begun _ _ (λ a o. le-ltb _ _ c.requires.1))

pub sweep_any-requires : goal.sweep_any-requires
sweep_any-requires c =
    let I = c.loop-s.invariant in
    let S = c.requires.0 in
    rw I.0.pages (still I.1 S, omega (arith, c.loop-s-test.true), c.requires.2, ltb-false _ _ (I.1.unmet S.0 S.1 S.2))

pub returns-in-Some-clause-sweeps : goal.returns-in-Some-clause-sweeps
returns-in-Some-clause-sweeps c =
    let I = c.loop-s.invariant in
    found_run I.1 c.loop-s-test.true (rw I.0.pages at c.in-Some.ensures.turn)

pub loop-s-preserved : goal.loop-s-preserved
loop-s-preserved c =
    let I = c.loop-s.invariant in
    let l = c.loop-s-test.true in
    let turn = rw I.0.pages at c.in_default.ensures.turn in
    (same_on I.0 c.in_default.ensures.same, goes_on I.1 any_steady l (λ a o F. (turn a o F).swept) (no_run I.1 l turn))

pub returns-clause-sweeps : goal.returns-clause-sweeps
returns-clause-sweeps c = no_more_runs c.loop-s.invariant.1 c.loop-s-test.false

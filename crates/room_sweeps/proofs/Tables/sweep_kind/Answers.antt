use native.Mathlib.Omega.{arith}
use Rattle.room_sweeps.proofs.Loop.{begun, still, goes_on}
use Rattle.room_sweeps.proofs.Same.{same_first, same_on}
use Rattle.room_sweeps.proofs.Turns.{kind_steady, not_found, found_one, no_more}
use Rattle.room_sweeps.proofs.Tables.sweep_kind.Goals as goal

pub loop-s-init : goal.loop-s-init
loop-s-init c = (same_first, begun _ _ c.requires.1)

pub sweep_of_kind-requires : goal.sweep_of_kind-requires
sweep_of_kind-requires c = let I = c.loop-s.invariant in rw I.0.pages (still I.1 c.requires.0, omega (arith, c.loop-s-test.true))

pub returns-in-Some-clause-sweeps : goal.returns-in-Some-clause-sweeps
returns-in-Some-clause-sweeps c =
    let I = c.loop-s.invariant in
    found_one I.1 c.loop-s-test.true (rw I.0.pages at c.in-Some.ensures.turn)

pub loop-s-preserved : goal.loop-s-preserved
loop-s-preserved c =
    let I = c.loop-s.invariant in
    let l = c.loop-s-test.true in
    let turn = rw I.0.pages at c.in_default.ensures.turn in
    (same_on I.0 c.in_default.ensures.same, goes_on I.1 (kind_steady _) l (λ a o _. (turn a o).swept) (not_found I.1 l turn))

pub returns-clause-sweeps : goal.returns-clause-sweeps
returns-clause-sweeps c = no_more c.loop-s.invariant.1 c.loop-s-test.false

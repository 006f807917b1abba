use mathlib.Core.Path.{◌≡◌, refl}
use mathlib.Core.Bool.{or-true}
use native.Mathlib.Omega.{arith}
use borrow.Author.Tests.{eq-eqb, ne_eqb}
use Rattle.model.specs.Spans.{owner}
use Rattle.page_runs.proofs.Around.{free_below, start_is}
use Rattle.page_runs.proofs.run_start.Goals as goal

pub returns-then-table-below-ne0 : goal.returns-then-table-below-ne0
unfolding owner
returns-then-table-below-ne0 c =
    omega (arith, start_is c.args.table.now c.loop-below.below c.args.s.0 (omega arith) c.loop-below.invariant (rw (ne_eqb _ _ c.if-table-below-ne0.true, or-true)))

pub loop-below-preserved : goal.loop-below-preserved
unfolding owner
loop-below-preserved c = free_below c.args.table.now _ _ c.loop-below.invariant (eq-eqb _ _ c.if-table-below-ne0.false)

pub returns : goal.returns
returns c =
    let e : c.loop-below.below ≡ 0 = omega arith in
    omega (arith, start_is c.args.table.now 0 c.args.s.0 (omega arith) (rw e at c.loop-below.invariant) refl)

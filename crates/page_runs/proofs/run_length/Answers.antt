use native.Mathlib.Omega.{arith}
use borrow.Author.Count.{below_more}
use borrow.Author.Tests.{eq-eqb, ne_eqb}
use mathlib.Core.Path.{◌≡◌}
use Rattle.model.specs.Spans.{owner}
use Rattle.page_runs.proofs.Allocate.{run_is}
use Rattle.page_runs.proofs.run_length.Goals as goal

pub returns-then-table-k-ne0 : goal.returns-then-table-k-ne0
unfolding owner
returns-then-table-k-ne0 c = run_is _ _ _ _ (omega arith) (omega arith) c.loop-k.invariant.1 (λ _. ne_eqb _ _ c.if-table-k-ne0.true)

pub loop-k-preserved : goal.loop-k-preserved
unfolding owner
loop-k-preserved c = (omega arith, below_more _ _ c.loop-k.invariant.1 (λ _. eq-eqb _ _ c.if-table-k-ne0.false))

pub returns : goal.returns
returns c =
    let e : c.loop-k.k ≡ c.args.p = omega arith in
    run_is _ _ _ _ c.requires.1 (omega arith) (rw e at c.loop-k.invariant.1) (λ q. absurd (omega arith))

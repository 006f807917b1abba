use Prim.Native.Nat.{◌+◌}
use mathlib.Core.Path.{◌≡◌}
use native.Mathlib.Omega.{arith}
use mathlib.Core.Logic.{inl, inr}
use Rattle.model.proofs.Tests.{clash}
use Rattle.page_runs.proofs.Allocate.{run_within}
use Rattle.page_runs.proofs.Runs.{worse, better, too_short, ended}
use Rattle.page_runs.proofs.best_run.Goals as goal
use Rattle.page_runs.proofs.best_run.Goals.{then-n-l+then-l-least, else-n-l}

pub overflow_add-g : goal.overflow_add-g
overflow_add-g c = omega (arith, run_within c.args.p c.args.table.now c.loop-g.g)

pub overflow_add-g-in-loop-g : goal.overflow_add-g-in-loop-g
overflow_add-g-in-loop-g c = omega (arith, run_within c.args.p c.args.table.now c.loop-g.g)

pub loop-g-preserved : goal.loop-g-preserved
loop-g-preserved c =
    let l = c.loop-g in
    let e : l.g + (c.run_length-l.result + 1) ≡ l.g + c.run_length-l.result + 1 = omega arith in
    rw e (elim c.if-n-l.branch [
      | then-n-l+then-l-least w ↦ rw (w.best-is, w.least-is, c.run_length-l.ensures) (better _ _ _ _ _ _ l.invariant (omega arith) (omega arith) (omega arith) (omega arith))
      | else-n-l w ↦
          rw (w.best-is, w.least-is, c.run_length-l.ensures)
          (worse _ _ _ _ _ _ l.invariant (λ r. elim w.else-n-l.either [ inl v ↦ omega arith | inr v ↦ clash _ r (too_short _ _ _ _ (omega arith)) ]))
    ])

pub returns : goal.returns
returns c = ended _ _ _ _ _ c.loop-g-test.false _ c.loop-g.invariant

-- `page_runs::best_run` meets its contract. The invariant: the best of the runs that start below page g is known.
use Prim.Native.Nat.{◌-◌}
use Rattle.page_runs.proofs.Runs.{SoFar}
use Rattle.page_runs.proofs.best_run.Given as goal

abbrev pub invariant-loop-g : goal.invariant-loop-g
invariant-loop-g l = SoFar l.p l.table l.n l.g l.best l.least

abbrev pub decreases-loop-g : goal.decreases-loop-g
decreases-loop-g l = l.p - l.g

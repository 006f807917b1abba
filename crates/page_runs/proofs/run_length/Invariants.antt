-- `page_runs::run_length` meets its contract. The invariant: the pages from g up to k are free.
use Prim.Native.Nat.{ℕ, ◌≤◌, ◌<◌}
use mathlib.Core.Bool.{true}
use mathlib.Core.Path.{◌≡◌}
use Rattle.model.specs.Spans.{is_free}
use Rattle.page_runs.proofs.run_length.Given as goal

abbrev pub invariant-loop-k : goal.invariant-loop-k
invariant-loop-k l = (l.g.0 ≤ l.k) × ((j : ℕ) → j < l.k → l.g.0 ≤ j → is_free l.table j ≡ true)

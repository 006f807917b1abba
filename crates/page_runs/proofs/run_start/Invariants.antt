-- `page_runs::run_start` meets its contract. The invariant: the pages from `below` up to page s are free.
use Prim.Native.Nat.{ℕ, ◌≤◌, ◌<◌}
use mathlib.Core.Bool.{true}
use mathlib.Core.Path.{◌≡◌}
use Rattle.model.specs.Spans.{is_free}
use Rattle.page_runs.proofs.run_start.Given as goal

abbrev pub invariant-loop-below : goal.invariant-loop-below
invariant-loop-below l = (x : ℕ) → l.below ≤ x → x < l.fn.s.0 → is_free l.table x ≡ true

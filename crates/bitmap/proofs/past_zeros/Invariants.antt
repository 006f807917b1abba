-- The invariant: the words from `from` on and before word `at` are 0.
use Prim.Native.Nat.{◌-◌, ◌≤◌}
use Rattle.bitmap.specs.Search.{Zeros}
use Rattle.bitmap.proofs.past_zeros.Given as goal

abbrev pub invariant-loop-at : goal.invariant-loop-at
invariant-loop-at l = (l.from ≤ l.at) × (l.at ≤ l.end) × Zeros l.ws l.from l.at

abbrev pub decreases-loop-at : goal.decreases-loop-at
decreases-loop-at l = l.end - l.at

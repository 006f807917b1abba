-- The invariant: the states before the index are done, the others are as they were.
use Rattle.std.proofs.Common.{ℕ, ◌≡◌, ◌<◌, ◌≤◌, get_or}
use Rattle.call_cycle_roots.proofs.Starting.{grayed_state}
use Rattle.call_cycle_roots.proofs.gray_stacks.Given as goal

abbrev pub invariant-loop-state : goal.invariant-loop-state
invariant-loop-state l = record {
  done : (k : ℕ) → k < l.state-index → get_or l.state-items k 0 ≡ grayed_state (get_or l.initial.state-items k 0);
  rest : (k : ℕ) → l.state-index ≤ k → get_or l.state-items k 0 ≡ get_or l.initial.state-items k 0;
}

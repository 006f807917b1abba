-- The audit's clauses about the states, one by one: the phase with the globals' state, and one stack.
use Rattle.std.specs.Prelude.{ℕ, ◌<◌, ◌≤◌, List, ◌≡◌, get_or}
use Rattle.model.specs.Memory.{slot_count, slot_at, state_at, globals_state_at, phase_at, closed, open_state, gray_state, sweep, mark, nil}

-- "states and phase have legal values, a state of 2 only in phase mark"
pub record GoodPhase (r : List ℕ) : Type 0 where
  pub legal : get_or r phase_at 0 ≤ sweep
  pub low : open_state ≤ get_or r globals_state_at 0
  pub high : get_or r globals_state_at 0 ≤ gray_state
  pub gray : get_or r globals_state_at 0 ≡ gray_state → get_or r phase_at 0 ≡ mark

-- all slots of stack s are nil
abbrev pub EmptyStack : List ℕ → ℕ → Type 0
EmptyStack r s = (i : ℕ) → i < slot_count → get_or r (slot_at s i) 0 ≡ nil

-- .. and "closed stacks are all nil", for stack s
pub record GoodStack (r : List ℕ) (s : ℕ) : Type 0 where
  pub high : get_or r (state_at s) 0 ≤ gray_state
  pub gray : get_or r (state_at s) 0 ≡ gray_state → get_or r phase_at 0 ≡ mark
  pub empty : get_or r (state_at s) 0 ≡ closed → EmptyStack r s

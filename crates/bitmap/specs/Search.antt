-- What a search finds: of numbers the lowest that passes a test, of words the first that is not 0.
use Rattle.std.specs.Prelude.{ℕ, ◌+◌, ◌<◌, ◌≤◌, Bool, List, ◌≢◌, ◌≡◌, Option, Some, None, get_or, if◌then◌else◌}
use Rattle.model.specs.Bounded.{◌<?◌, first_below}

-- the lowest of the n numbers from `from` on that passes, where one does; the test is of how far it lies behind `from`
abbrev pub found : ℕ → ℕ → (ℕ → Bool) → Option ℕ
found from n t = if first_below n t <? n then Some (from + first_below n t) else None

-- the words from word `from` on and before word `to` are 0
abbrev pub Zeros : List ℕ → ℕ → ℕ → Type 0
Zeros ws from to = (k : ℕ) → from ≤ k → k < to → get_or ws k 0 ≡ 0

-- r is the first word from word `from` on and before word `end` that is not 0
pub record FirstNonzero (ws : List ℕ) (from end r : ℕ) : Type 0 where
  pub begun : from ≤ r
  pub within : r < end
  pub before : Zeros ws from r
  pub holds : get_or ws r 0 ≢ 0

-- How many of the records below n pass a test: of the numbers below n all but 0, which is nil. `count_below` is the crate model's.
use Rattle.std.specs.Prelude.{Bool, not, ◌&&◌, ℕ, eqb}
use Rattle.model.specs.Bounded.{count_below}

abbrev pub some : (ℕ → Bool) → ℕ → Bool
some p x = not (eqb x 0) && p x

abbrev pub count : (ℕ → Bool) → ℕ → ℕ
count p n = count_below n (some p)

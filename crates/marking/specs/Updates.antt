-- Functions changed at a place: h, but v at i. Nothing has to be read before it.
use Rattle.std.specs.Prelude.{cond, ℕ, eqb}

unfoldable pub update : {X : Type 0} → (ℕ → X) → ℕ → X → ℕ → X
update h i v x = cond (eqb x i) v (h x)

-- the same for a table of two keys
unfoldable pub update2 : (ℕ → ℕ → ℕ) → ℕ → ℕ → ℕ → ℕ → ℕ → ℕ
update2 h i j v = update h i (update (h i) j v)

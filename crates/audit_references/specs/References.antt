-- Where the bits of kept elements stand, and ranges of roots.
use Rattle.std.specs.Prelude.{ℕ, ◌*◌, ◌<◌, ◌≤◌, Bool, cond, List, get_or}
use Rattle.model.specs.Memory.{page_words, marked_part}
use Rattle.model.specs.Facts.{Reference}

-- the bit at which the part starts that says which elements of a span are kept: marked in an unswept one, else allocated
abbrev pub kept_from : ℕ → Bool → ℕ
kept_from p unswept = cond unswept (marked_part * (page_words * p)) 0

-- the roots from `from` on and before `to` are references
abbrev pub RootRange : ℕ → List ℕ → List ℕ → List ℕ → ℕ → ℕ → Type 0
RootRange p t b r from to = (i : ℕ) → from ≤ i → i < to → Reference p t b (get_or r i 0)

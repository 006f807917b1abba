-- What a sweep frees, and the search for the next of it.
use Rattle.std.specs.Prelude.{ℕ, ◌+◌, ◌-◌, ◌*◌, ◌%◌, ◌≤◌, Bool, ◌&&◌, not, List, Option, ◌≡◌}
use Rattle.model.specs.Memory.{page_words, word_bits}
use Rattle.model.specs.Bitmaps.{bit_in, allocated, marked}
use Rattle.bitmap.specs.Search.{found}

-- an element that starts at word w is allocated and not marked
abbrev pub is_freed : ℕ → List ℕ → ℕ → Bool
is_freed p b w = bit_in (page_words * p) allocated b w && not (bit_in (page_words * p) marked b w)

-- the first such word from `from` on and below `to`, where there is one
abbrev pub next_freed : ℕ → List ℕ → ℕ → ℕ → Option ℕ
next_freed p b from to = found from (to - from) (λ k. is_freed p b (from + k))

-- words of an arena of p pages, up to the end of a block
pub record SearchRange (p from to : ℕ) : Type 0 where
  pub order : from ≤ to
  pub inside : to ≤ page_words * p
  pub whole : to % word_bits ≡ 0

-- A search through words: what it asks of the closure that reads them, and what it finds.
use Rattle.std.specs.Prelude.{ℕ, ◌+◌, ◌-◌, ◌*◌, ◌/◌, ◌<◌, Bool, Option, ◌≡◌, if◌then◌else◌}
use Rattle.model.specs.Memory.{word_bits}
use Rattle.model.specs.Bitmaps.{bit_of}
use Rattle.bitmap.specs.Search.{found}

-- the words that hold the bits below `to` can be read
abbrev pub Readable : ℕ → (ℕ → Type 0) → Type 0
Readable to pre = (at : ℕ) → at < (to + (word_bits - 1)) / word_bits → pre at

-- .. and a bit of a word is on where the bit of that number passes
abbrev pub GivesWords : ℕ → (ℕ → Bool) → (ℕ → ℕ → Type 0) → Type 0
GivesWords to t post =
    (at w : ℕ) → at < (to + (word_bits - 1)) / word_bits → post at w → (j : ℕ) → j < word_bits → bit_of w j ≡ (if t (at * word_bits + j) then 1 else 0)

-- the lowest bit from `from` on and below `to` that passes, where one does, for each test that the words give
abbrev pub FindsIn : ℕ → ℕ → (ℕ → ℕ → Type 0) → Option ℕ → Type 0
FindsIn from to post r = (t : ℕ → Bool) → GivesWords to t post → r ≡ found from (to - from) (λ k. t (from + k))

-- What the search for a free element asks of its arguments.
use Rattle.std.specs.Prelude.{ℕ, ◌+◌, ◌*◌, ◌%◌, ◌^◌, ◌<◌, ◌≤◌, List, ◌≡◌, length}
use Rattle.model.specs.Memory.{word_bits}
use Rattle.model.specs.Lent.{StartsMask}

-- a mask of the elements' starts
pub record Starts (size mask : ℕ) : Type 0 where
  pub bit : StartsMask size mask

-- `count` elements from bit `first` on, the lowest of its word, lie within the words
pub record ElementRow (ws : List ℕ) (first size count mask : ℕ) : Type 0 where
  pub aligned : first % word_bits ≡ 0
  pub some : 0 < size
  pub inside : first + count * size ≤ word_bits * length ws
  pub fits : first + count * size < 2 ^ word_bits
  pub starts : Starts size mask

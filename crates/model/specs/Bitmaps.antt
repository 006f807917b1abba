-- The bitmaps: one bit per arena word in each of four parts.
use Rattle.std.specs.Prelude.{ℕ, ◌+◌, ◌-◌, ◌*◌, ◌/◌, ◌%◌, ◌^◌, Bool, ◌&&◌, cond, List, get_or, set, ◌==◌}
use Rattle.std.specs.Int.Bits.{bit_or, bit_and}
use Rattle.model.specs.Bounded.{◌<?◌, write_run}
use Rattle.model.specs.Memory.{Heap, words, word_bits, marked_part, gray_part, pointer_part}

-- bit k of a word: 1 or 0
unfoldable pub bit_of : ℕ → ℕ → ℕ
bit_of w k = w / 2 ^ k % 2

-- a word with its bit k on or off
unfoldable pub with_bit_of : ℕ → Bool → ℕ → ℕ
with_bit_of k on w = cond on (bit_or w (2 ^ k)) (bit_and w ((2 ^ word_bits - 1) - 2 ^ k))

-- bit i of a list of words, "lowest bit first"
unfoldable pub bit_at : List ℕ → ℕ → Bool
bit_at ws i = bit_of (get_or ws (i / word_bits) 0) (i % word_bits) == 1

-- the words with bit i on or off
unfoldable pub with_bit : ℕ → Bool → List ℕ → List ℕ
with_bit i on ws = set ws (i / word_bits) (with_bit_of (i % word_bits) on (get_or ws (i / word_bits) 0))

-- "in four parts of 16 × P: allocated, marked, gray, pointer"
pub data Part : Type 0 where
  allocated marked gray pointer : Part

-- "Each part has one bit per arena word": the bit of word w, in the bitmaps of an arena of n words
abbrev pub place : ℕ → Part → ℕ → ℕ
place n allocated w = w
place n marked w = marked_part * n + w
place n gray w = gray_part * n + w
place n pointer w = pointer_part * n + w

-- the bit of word w; a word past the arena has none
unfoldable pub bit_in : ℕ → Part → List ℕ → ℕ → Bool
bit_in n q b w = w <? n && bit_at b (place n q w)

-- the bitmaps with the bit of word w on or off, for a word inside the arena
unfoldable pub put_bit : ℕ → Part → ℕ → Bool → List ℕ → List ℕ
put_bit n q w on b = with_bit (place n q w) on b

-- the bits of the k words from w on, each to the value of its word
abbrev pub put_bits : ℕ → Part → ℕ → ℕ → (ℕ → Bool) → List ℕ → List ℕ
put_bits n q w k value b = write_run (put_bit n q) w k value b

-- the allocated, marked, gray or pointer bit of word w is on
abbrev pub is : Part → Heap → ℕ → Bool
is q h w = bit_in (words h) q h.bits w

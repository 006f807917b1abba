-- Input split into lines: what the bytes of a block, from a place on, make of the line under way.
use Rattle.std.specs.Prelude.{ℕ, ◌+◌, ◌-◌, ◌≤◌, min, List, ◌≡◌, length, get_or, ◌==◌, if◌then◌else◌}
use Rattle.model.specs.Bounded.{◌<?◌, first_below}
use Rattle.model.specs.Memory.{put_words}
use Rattle.model.specs.Promises.{Buffer}
use Rattle.trace_read.specs.Lines.{longest_line}
use Rattle.trace_split.specs.declared.Taken.{Taken}
use Rattle.trace_split.specs.declared.Taken.TheVariants.{Line, Part, TooLong}

abbrev pub line_feed : ℕ
line_feed = 10

-- how many bytes from `from` on come before the next line feed, or the block's end
unfoldable pub before_feed : List ℕ → ℕ → ℕ
before_feed block from = first_below (length block - from) (λ k. get_or block (from + k) 0 == line_feed)

-- a line whose line feed is in the block, one that goes on in the next block, or one with more than 80 bytes
unfoldable pub taken : ℕ → List ℕ → ℕ → Taken
taken used block from =
    let n = before_feed block from in
    let rest = if n <? length block - from then Line (used + n) (from + n + 1) else Part (used + n) in
    if longest_line <? used + n then TooLong else rest

-- the line under way with these bytes behind its first `used`, as many as it has room for
unfoldable pub joined : List ℕ → ℕ → List ℕ → ℕ → List ℕ
joined line used block from = put_words used (min (before_feed block from) (longest_line - used)) (λ i. get_or block (from + (i - used)) 0) line

-- a line under way, of which `used` bytes are read, and a place in a block
pub record UnderWay (line : List ℕ) (used : ℕ) (block : List ℕ) (from : ℕ) : Type 0 where
  pub size : length line ≡ longest_line
  pub room : used ≤ longest_line
  pub place : from ≤ length block

-- a line, and a part of one, has room in the buffer
abbrev pub Short : Taken → Type 0
Short (Line n next) = n ≤ longest_line
Short (Part n) = n ≤ longest_line
Short TooLong = Unit {0}

-- what a block gives, and the line under way with its bytes, of the buffers that a function is lent
abbrev pub TakesBytes : Buffer → ℕ → Buffer → ℕ → Taken → Type 0
TakesBytes line used block from r =
    (r ≡ taken used block.entry from) × (line.exit ≡ joined line.entry used block.entry from)

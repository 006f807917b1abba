-- What the program keeps true of its memory from one line to the next, so that no index is out of range.
use Rattle.std.specs.Prelude.{◌≡◌, ℕ, ◌*◌, ◌≤◌, List, length}
use Rattle.model.specs.Memory.{page_words, bitmap_words}
use Rattle.model.specs.Lent.{Roots, PageTable}
use Rattle.model.specs.Promises.{Borrowed}
use Rattle.trace_read.specs.Lines.{longest_line}
use Rattle.trace_line.specs.Play.{most_pages}
use Rattle.play.specs.declared.Progress.{Progress}

-- the bytes of a buffer that a block of input is read into, and of the one for what waits to be written
abbrev pub block_bytes : ℕ
block_bytes = 65536

-- the four buffers, for the most pages that a trace can ask for, and what waits to be written
pub record ProgramMemory (a t b s o : List ℕ) : Type 0 where
  pub arena : length a ≡ page_words * most_pages
  pub table : PageTable most_pages t
  pub bits : length b ≡ bitmap_words * most_pages
  pub roots : Roots s
  pub out : length o ≡ block_bytes

-- .. as it is lent
abbrev pub LentMemory : Borrowed → Borrowed → Borrowed → Borrowed → Borrowed → Type 0
LentMemory arena table bits roots out = ProgramMemory arena table bits roots out

-- how far the run is lies within that memory, and within the line under way
pub record InRange (r : Progress) : Type 0 where
  pub pages : r.pages ≤ most_pages
  pub used : r.used ≤ longest_line
  pub at : r.at ≤ block_bytes

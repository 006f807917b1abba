-- The work of one line of a trace: what is written for it, the buffers that the next line finds, and whether the run goes on.
use Rattle.std.specs.Prelude.{ℕ, ◌≤◌, ◌+◌, Bool, true, false, ◌&&◌, List, Option, Some, None, ◌≡◌, if◌then◌else◌}
use Rattle.model.specs.Bounded.{◌≤?◌}
use Rattle.model.specs.Memory.{Heap, lent}
use Rattle.model.specs.Answers.{Outcome, accepted, bad_buffers}
use Rattle.model.specs.Calls as model
use Rattle.model.specs.Promises.{Buffer, found}
use Rattle.model.specs.declared.Answer.TheVariants.{Refused}
use Rattle.model.specs.declared.Call.TheVariants as call
use Rattle.trace_read.specs.declared.Line.{Line}
use Rattle.trace_read.specs.declared.Line.TheVariants.{Setup, Call}
use Rattle.trace_write.specs.Text.{answer_text, bad_text, longest_answer, Wrote}
use Rattle.trace_line.specs.declared.LineResult.{LineResult}

pub record Played : Type 0 where
  pub text : List ℕ
  pub heap : Heap
  pub more : Bool

-- "Each line answers `ok` with its numbers .. or `no` and the refusal."
abbrev pub answered : Outcome → Bool → Played
answered o more = record { text = answer_text o.answer; heap = o.heap; more = more }

-- "A line that does not read prints `bad` and its line number (from 1) and the run ends there"
abbrev pub played_bad : ℕ → Heap → Played
played_bad number h = record { text = bad_text number; heap = h; more = false }

-- "P 1 to 8": the trace program has memory for so many pages
abbrev pub most_pages : ℕ
most_pages = 8

abbrev pub in_reach : ℕ → Bool
in_reach p = 1 ≤? p && p ≤? most_pages

abbrev pub with_pages : ℕ → Heap → Heap
with_pages p h = lent p h.arena h.table h.bits h.roots

-- "otherwise `no 1` and the end"
abbrev pub setup_refused : Heap → Outcome
setup_refused h = record { answer = Refused bad_buffers; heap = h }

unfoldable pub played_setup : ℕ → Heap → Played
played_setup p h =
    if in_reach p then answered (model.run (with_pages p h) call.Setup) (accepted (model.run (with_pages p h) call.Setup).answer)
    else answered (setup_refused h) false

-- "`H P` comes first"; "so does .. a first line that is not H"
abbrev pub first : Option Line → Heap → Played
first None h = played_bad 1 h
first (Some (Setup p)) h = played_setup p h
first (Some (Call c)) h = played_bad 1 h

-- ".. and only once"; "or a later H"
abbrev pub later : Option Line → ℕ → Heap → Played
later None number h = played_bad number h
later (Some (Setup p)) number h = played_bad number h
later (Some (Call c)) number h = answered (model.run h c) true

-- how many pages the first line asks for, if it asks for some that can be had
abbrev pub pages_of : Option Line → Option ℕ
pages_of None = None
pages_of (Some (Setup p)) = if in_reach p then Some p else None
pages_of (Some (Call c)) = None

-- what the work of a line promises: the bytes that it wrote from `at` on, no more than the longest line has, whether the run goes on, and the four
-- buffers
pub record Plays (o : Played) (at : ℕ) (entry exit : List ℕ) (r : LineResult) (a t b s : List ℕ) : Type 0 where
  pub written : Wrote o.text at entry exit r.at
  pub room : r.at ≤ at + longest_answer
  pub more : r.more ≡ o.more
  pub arena : a ≡ o.heap.arena
  pub table : t ≡ o.heap.table
  pub bits : b ≡ o.heap.bits
  pub roots : s ≡ o.heap.roots

-- .. of the buffers that it is lent
abbrev pub PlaysLine : (Heap → Played) → ℕ → Buffer → Buffer → Buffer → Buffer → Buffer → ℕ → LineResult → Type 0
PlaysLine work p arena table bits roots out at r =
    Plays (work (found p arena table bits roots)) at out.entry out.exit r arena.exit table.exit bits.exit
    roots.exit

-- What a scan that is not refused asks of the buffers, and what it comes to.
use Rattle.std.specs.Prelude.{ℕ, ◌+◌, ◌<◌, ◌≤◌, List, get_or}
use Rattle.std.specs.List.{between}
use Rattle.model.specs.Memory.{root_words}
use Rattle.model.specs.Cycle.{scan_outcome}
use Rattle.model.specs.declared.Answer.{Answer}
use Rattle.model.specs.Lent.{Roots}
use Rattle.model.specs.Promises.{Borrowed, Buffer, DoesWithoutArena}
use Rattle.shading.specs.Needs.{ShadableSlice}

-- n words of the roots from word `from` on, the slots of a stack or the globals, and the word `at` that has their state
pub record Scannable (p : ℕ) (t b r : List ℕ) (from n at : ℕ) : Type 0 where
  pub values : ShadableSlice p t b (between from (from + n) r)
  pub inside : from + n ≤ root_words
  pub roots : Roots r
  pub state : at < root_words

-- .. of lent buffers
abbrev pub LentScan : ℕ → Borrowed → Borrowed → Borrowed → ℕ → ℕ → ℕ → Type 0
LentScan p table bits roots from n at = Scannable p table bits roots from n at

-- the outcome of their scan
abbrev pub Scans : ℕ → Buffer → Buffer → Buffer → ℕ → ℕ → ℕ → Answer → Type 0
Scans p table bits roots from n at r = DoesWithoutArena (scan_outcome 0 n (λ i. get_or roots.entry (from + i) 0) at) p table bits roots r

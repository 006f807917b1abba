-- What setup promises of the three buffers that it is lent: each becomes 0 as long as it is, but for the globals' state.
use Rattle.std.specs.Prelude.{List, ◌≡◌, ℕ, length, replicate, set}
use Rattle.model.specs.Memory.{globals_state_at, open_state}
use Rattle.model.specs.Promises.{Buffer}
use Rattle.model.specs.declared.Answer.{Answer}
use Rattle.model.specs.declared.Answer.TheVariants.{Done}

pub record Emptied (t b s t' b' s' : List ℕ) (r : Answer) : Type 0 where
  pub answer : r ≡ Done
  pub table : t' ≡ replicate (length t) 0
  pub bits : b' ≡ replicate (length b) 0
  pub roots : s' ≡ set (replicate (length s) 0) globals_state_at open_state

abbrev pub SetsUp : Buffer → Buffer → Buffer → Answer → Type 0
SetsUp table bits roots r =
    Emptied table.entry bits.entry roots.entry table.exit bits.exit roots.exit r

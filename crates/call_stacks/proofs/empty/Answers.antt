-- The words that `zero_part` clears are the slots.
use native.Mathlib.Nat.{add-zero}
use Rattle.model.specs.Records.{emptied}
use Rattle.call_stacks.proofs.empty.Goals as goal

pub returns : goal.returns
unfolding emptied
returns c = λ p a t b. rw (c.zero_part.ensures, add-zero)

-- The first set bit of the span's words in the allocated part, the first of the four.
use native.Mathlib.Omega.{arith}
use Rattle.audit_bits.proofs.Stretches.{set_found}
use Rattle.audit_bits.proofs.Blocks.occupied.Goals as goal

pub returns : goal.returns
returns c = set_found _ _ _ _ _ _ _ c.first_word-from.ensures c.first_word-to.ensures (omega arith) c.first_set.ensures (grind (arith, c.is_some.ensures))

-- The four words joined are 0 where none has a bit.
use native.Mathlib.Omega.{arith}
use Rattle.audit_bits.proofs.Masks.{none_on}
use Rattle.audit_bits.proofs.Block.is_empty.Goals as goal

pub returns : goal.returns
returns c = none_on _ (omega arith) (omega arith) (omega arith) (omega arith)

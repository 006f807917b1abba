-- The word that is written is the definition's: a bit moved up within the word keeps its value.
use Prim.Native.Nat.{◌%◌}
use native.Mathlib.Omega.{arith}
use Rattle.model.specs.Bitmaps.{with_bit, with_bit_of}
use Rattle.bitmap.proofs.Bits.{one_up}
use Rattle.bitmap.proofs.set.Goals as goal

pub returns : goal.returns
unfolding with_bit with_bit_of
returns c = rw (one_up (c.args.i % 64) (omega arith))

-- `trace_write::write_spaced` meets its contract: the buffer keeps its length as the space is written.
use native.Mathlib.Omega.{arith}
use lib.ListN.{length-set}
use Rattle.trace_write.proofs.Bytes.{decimal_length}
use Rattle.trace_write.proofs.write_spaced.Goals as goal

pub write_decimal-requires : goal.write_decimal-requires
write_decimal-requires c = simp length-set (omega (arith, decimal_length c.args.n))

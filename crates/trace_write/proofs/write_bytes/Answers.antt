-- `trace_write::write_bytes` meets its contract: bytes copied over a part are bytes set one after the other.
use Rattle.std.proofs.Common.{arith, refl}
use Rattle.trace_write.proofs.Bytes.{copied}
use Rattle.trace_write.proofs.write_bytes.Goals as goal

pub returns : goal.returns
returns c = record { buffer = copied c.args.at _ _ _ _ c.copy_from_slice.ensures.after (omega arith) c.requires; end = refl }

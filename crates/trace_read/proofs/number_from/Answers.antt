-- `trace_read::number_from` meets its contract: where a digit is read, what `digits_from` tells.
use Rattle.std.proofs.Common.{length, sym, arith}
use Rattle.std.proofs.lemmas.Slice.{between_to_end}
use Rattle.trace_read.proofs.Digits.{first_digit}
use Rattle.trace_read.proofs.number_from.Goals as goal

pub returns-clause-reads : goal.returns-clause-reads
returns-clause-reads c =
    let bytes = c.args.bytes.now in
    rw (first_digit bytes c.in_ok-digit.field-0 (omega arith) (omega arith) (sym c.in_ok-digit.ensures), ← between_to_end bytes 2 (length bytes) (omega arith)) c.digits_from.ensures.reads

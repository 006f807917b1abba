-- `trace_read::read` meets its contract: the two bounds on the length, then the letter and the numbers.
use Rattle.std.proofs.Common.{length, sym, arith}
use Rattle.std.proofs.lemmas.Slice.{between_to_end}
use Rattle.trace_read.proofs.Digits.{read_none, read_long, read_some}
use Rattle.trace_read.proofs.read.Goals as goal

pub returns-then-line-gt-LONGEST : goal.returns-then-line-gt-LONGEST
returns-then-line-gt-LONGEST c = sym (read_long c.args.line.now (omega arith))

pub returns-in_default : goal.returns-in_default
returns-in_default c = sym (read_none c.args.line.now (omega arith))

pub returns-in_err-numbers : goal.returns-in_err-numbers
returns-in_err-numbers c =
    let l = c.args.line.now in
    rw (c.from_residual.ensures, read_some l (omega arith) (omega arith), ← between_to_end l 1 (length l) (omega arith), c.in_err-numbers.ensures)

pub returns : goal.returns
returns c =
    let l = c.args.line.now in
    rw (read_some l (omega arith) (omega arith), ← between_to_end l 1 (length l) (omega arith), c.in_ok-numbers.ensures, ← c.as_slice.ensures) c.line_of.ensures

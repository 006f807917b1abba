-- `trace_read::numbers_of` meets its contract. The invariant: the numbers of the line are those read, then those of the rest.
use Rattle.std.proofs.Common.{◌≡◌, length, take}
use Rattle.trace_read.specs.Lines.{numbers_of}
use Rattle.trace_read.proofs.Digits.{all_before}
use Rattle.trace_read.proofs.numbers_of.Given as goal

abbrev pub invariant-loop-rest : goal.invariant-loop-rest
invariant-loop-rest l = numbers_of l.bytes ≡ all_before (take l.numbers.count l.numbers.values) (numbers_of l.rest)

abbrev pub decreases-loop-rest : goal.decreases-loop-rest
decreases-loop-rest l = length l.rest

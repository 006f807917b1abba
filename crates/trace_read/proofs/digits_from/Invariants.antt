-- `trace_read::digits_from` meets its contract. The invariant: what the digits passed come to fits, and reading on from here is reading from the start.
use Rattle.std.proofs.Common.{◌≡◌, ◌^◌, ◌<◌, drop}
use Rattle.trace_read.specs.Lines.{digits}
use Rattle.trace_read.proofs.digits_from.Given as goal

abbrev pub invariant-loop-i : goal.invariant-loop-i
invariant-loop-i l = (l.v < 2 ^ 64) × (digits l.first l.bytes ≡ digits l.v (drop l.i l.bytes))

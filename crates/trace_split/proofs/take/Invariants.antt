-- The invariant: the bytes from `from` up to i are passed.
use Rattle.trace_split.proofs.Splitting.{Copied}
use Rattle.trace_split.proofs.take.Given as goal

abbrev pub invariant-loop-i : goal.invariant-loop-i
invariant-loop-i l = Copied l.initial.line l.used l.block l.from l.line l.at l.i

-- `trace_write::write_line` meets its contract. The invariant: the word and the numbers passed are written.
use Rattle.std.proofs.Common.{◌+◌, ◌*◌, ◌≤◌, ◌++◌, length, take}
use Rattle.std.specs.List.{flat_map}
use Rattle.trace_write.specs.Text.{spaced, longest_spaced, Wrote}
use Rattle.trace_write.proofs.write_line.Given as goal

abbrev pub invariant-loop-n : goal.invariant-loop-n
invariant-loop-n l = Wrote (l.word ++ flat_map spaced (take l.n-index l.numbers)) l.at l.fn.out l.out l.end × (l.end ≤ l.at + length l.word + longest_spaced * l.n-index)

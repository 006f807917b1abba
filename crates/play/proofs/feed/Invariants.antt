-- `play::feed` is safe and ends. The invariant: the buffers keep their sizes, what is counted fits them, and the bytes passed are the block's.
use Rattle.std.proofs.Common.{◌≡◌, ◌-◌, ◌≤◌, length}
use Rattle.trace_read.specs.Lines.{longest_line}
use Rattle.play.specs.Run.{ProgramMemory, InRange}
use Rattle.play.proofs.feed.Given as goal

abbrev pub invariant-loop-run : goal.invariant-loop-run
invariant-loop-run l = ProgramMemory l.arena l.table l.bits l.roots l.out × InRange l.run × (length l.line ≡ longest_line) × (l.i ≤ length l.block)

abbrev pub decreases-loop-run : goal.decreases-loop-run
decreases-loop-run l = length l.block - l.i

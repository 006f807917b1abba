-- `play::main` is safe and ends. The invariant: the buffers keep their sizes, and what is counted fits them.
use Rattle.std.proofs.Common.{◌≡◌, length}
use Rattle.trace_read.specs.Lines.{longest_line}
use Rattle.play.specs.Run.{block_bytes, ProgramMemory, InRange}
use Rattle.play.proofs.main.Given as goal

abbrev pub invariant-loop : goal.invariant-loop
invariant-loop l = ProgramMemory l.arena l.table l.bits l.roots l.out × InRange l.run × (length l.line ≡ longest_line) × (length l.block ≡ block_bytes)

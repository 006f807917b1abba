-- The invariant: no unswept span starts below page s, no run is long enough, and what is left to do is what was to do at the beginning.
use Rattle.model.specs.Allocate.{pages_free, any_span}
use Rattle.room_sweeps.specs.Tables.{SameTables}
use Rattle.room_sweeps.proofs.Loop.{Under}
use Rattle.room_sweeps.proofs.Tables.sweep_pages.Given as goal

abbrev pub invariant-loop-s : goal.invariant-loop-s
invariant-loop-s l = SameTables l.fn.self l.self × Under (pages_free l.n) any_span l.fn.self.pages l.fn.self.table.now l.fn.self.bits.now l.self.table.now l.self.bits.now l.s

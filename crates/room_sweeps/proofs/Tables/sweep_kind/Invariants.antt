-- The invariant: no unswept span of the kind starts below page s, none of the kind has room, and what is left to do is what was to do at the beginning.
use Rattle.model.specs.Allocate.{element_free, of_kind}
use Rattle.room_sweeps.specs.Tables.{SameTables}
use Rattle.room_sweeps.proofs.Loop.{Under}
use Rattle.room_sweeps.proofs.Tables.sweep_kind.Given as goal

abbrev pub invariant-loop-s : goal.invariant-loop-s
invariant-loop-s l = SameTables l.fn.self l.self × Under (element_free l.kind) (of_kind l.kind) l.fn.self.pages l.fn.self.table.now l.fn.self.bits.now l.self.table.now l.self.bits.now l.s

-- The invariant: the slots of the stacks below s are references.
use Rattle.model.specs.Memory.{slot_count}
use Rattle.audit_references.specs.Kept.{Range}
use Prim.Native.Nat.{◌*◌}
use Rattle.audit_references.proofs.Kept.slots_ok.Given as goal

abbrev pub invariant-loop-s : goal.invariant-loop-s
invariant-loop-s l = Range l.self l.roots 0 (slot_count * l.s)

-- The invariant: what `Passed` says of page g. A turn passes a free page or a whole span.
use Prim.Native.Nat.{◌-◌}
use Rattle.audit_bits.proofs.Stretches.{Passed}
use Rattle.audit_bits.proofs.bits_ok.Given as goal

abbrev pub invariant-loop-g : goal.invariant-loop-g
invariant-loop-g l = Passed l.p l.phase l.table l.bits l.g

abbrev pub decreases-loop-g : goal.decreases-loop-g
decreases-loop-g l = l.p - l.g

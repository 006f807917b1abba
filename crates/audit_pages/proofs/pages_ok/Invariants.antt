-- The invariant: the pages below g are as they should be, and no span goes on at g. A turn passes a free page or a whole span.
use Prim.Native.Nat.{◌-◌}
use Rattle.audit_pages.proofs.Pass.{Upto}
use Rattle.audit_pages.proofs.pages_ok.Given as goal

abbrev pub invariant-loop-g : goal.invariant-loop-g
invariant-loop-g l = Upto l.p l.phase l.table l.g

abbrev pub decreases-loop-g : goal.decreases-loop-g
decreases-loop-g l = l.p - l.g

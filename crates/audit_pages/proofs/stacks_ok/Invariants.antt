-- The invariant: the stacks below s are as they should be.
use Rattle.audit_pages.specs.Stacks.{GoodStack}
use Prim.Native.Nat.{ℕ, ◌<◌}
use Rattle.audit_pages.proofs.stacks_ok.Given as goal

abbrev pub invariant-loop-s : goal.invariant-loop-s
invariant-loop-s l = (k : ℕ) → k < l.s → GoodStack l.roots k

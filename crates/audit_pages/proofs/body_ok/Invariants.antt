-- The invariant: the span's pages below g but its first are further pages of it.
use Rattle.audit_pages.specs.Pass.{Further}
use Prim.Native.Nat.{ℕ, ◌<◌}
use Rattle.audit_pages.proofs.body_ok.Given as goal

abbrev pub invariant-loop-g : goal.invariant-loop-g
invariant-loop-g l = (k : ℕ) → l.s.0 < k → k < l.g → Further l.table l.s.0 k

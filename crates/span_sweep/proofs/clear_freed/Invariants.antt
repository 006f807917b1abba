-- The invariant: below word `from`, past which no element before it reaches, the pointer bits are the definition's, by any table that the span is read from.
use Prim.Native.Nat.{ℕ, ◌-◌}
use mathlib.Core.List.{List}
use Rattle.bitmap_range.proofs.Bits.{Fit}
use Rattle.span_sweep.proofs.Pointers.{Cleared, Measured}
use Rattle.span_sweep.proofs.clear_freed.Given as goal

abbrev pub invariant-loop-freed : goal.invariant-loop-freed
invariant-loop-freed l =
    Fit l.initial.bits × ((t : List ℕ) → Measured l.p t l.initial.bits l.start l.size l.to.0 → Cleared l.p t l.initial.bits l.start l.from.0 l.bits)

abbrev pub decreases-loop-freed : goal.decreases-loop-freed
decreases-loop-freed l = l.to.0 - l.from.0

-- The invariant: no unswept span starts below page s.
use Prim.Native.Nat.{ℕ, ◌<◌}
use mathlib.Core.Bool.{false, ◌&&◌}
use mathlib.Core.Path.{◌≡◌}
use Rattle.model.specs.Spans.{starts_span, is_unswept}
use Rattle.page_entries.proofs.first_unswept.Given as goal

abbrev pub invariant-loop-s : goal.invariant-loop-s
invariant-loop-s l = (k : ℕ) → k < l.s → (starts_span l.table k && is_unswept l.table k) ≡ false

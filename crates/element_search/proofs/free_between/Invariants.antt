-- The invariant: no span from page `from` on and below page s has room.
use Prim.Native.Nat.{ℕ, ◌≤◌, ◌<◌}
use mathlib.Core.Bool.{false}
use mathlib.Core.List.{List}
use mathlib.Core.Path.{◌≡◌}
use Rattle.model.specs.Memory.{lent}
use Rattle.model.specs.Allocate.{has_room}
use Rattle.element_search.proofs.free_between.Given as goal

abbrev pub invariant-loop-s : goal.invariant-loop-s
invariant-loop-s l = (k : ℕ) → l.initial.s ≤ k → k < l.s → (a o : List ℕ) → has_room (lent l.p a l.table l.bits o) l.kind k ≡ false

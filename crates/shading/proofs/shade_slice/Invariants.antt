-- The values before this one are shaded, and their marks counted.
use Prim.Native.Nat.{◌≤◌}
use lib.ListN.{get_or}
use Rattle.shading.specs.Needs.{ShadesAll}
use Rattle.shading.proofs.shade_slice.Given as goal

abbrev pub invariant-loop-v : goal.invariant-loop-v
invariant-loop-v l = (l.count ≤ l.v-index) × ShadesAll l.p l.table l.v-index (λ i. get_or l.words i 0) l.initial.bits l.count l.bits

-- The invariant: no free element starts in the words before word number `at`, and `off` is the lowest bit of that word at which one starts.
use Prim.Native.Nat.{◌-◌, ◌*◌}
use Rattle.bitmap.proofs.Scan.{None}
use Rattle.bitmap.proofs.FirstFree.{StartAt, free_start}
use Rattle.bitmap.proofs.first_free.Given as goal

abbrev pub invariant-loop-at : goal.invariant-loop-at
invariant-loop-at l = StartAt l.first l.size l.at l.off × None (free_start l.ws l.first l.size) (l.at * 64)

abbrev pub decreases-loop-at : goal.decreases-loop-at
decreases-loop-at l = l.end - l.at

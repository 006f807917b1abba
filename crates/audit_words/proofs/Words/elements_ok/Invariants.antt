-- The invariant: the kept elements whose bit stands below `at` have references in their pointer words.
use Rattle.audit_words.proofs.Contents.{ContentsBelow}
use Prim.Native.Nat.{◌+◌, ◌-◌, ◌≤◌}
use Rattle.audit_words.proofs.Words.elements_ok.Given as goal

abbrev pub invariant-loop-i : goal.invariant-loop-i
invariant-loop-i l =
    let k = l.self.kept in
    (l.from + l.first ≤ l.at) × (l.at ≤ l.end) × ContentsBelow k.pages l.self.arena.now k.table.now k.bits.now l.first l.n l.from l.end l.at

abbrev pub decreases-loop-i : goal.decreases-loop-i
decreases-loop-i l = l.end - l.at

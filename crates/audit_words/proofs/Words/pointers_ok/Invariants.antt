-- The invariant: the words below f are pointers and hold references.
use Rattle.model.specs.Facts.{Reference, bit}
use Rattle.model.specs.Bitmaps.{pointer}
use lib.ListN.{get_or}
use lib.Dec.{T}
use Prim.Native.Nat.{ℕ, ◌+◌, ◌<◌}
use Rattle.audit_words.proofs.Words.pointers_ok.Given as goal

abbrev pub invariant-loop-f : goal.invariant-loop-f
invariant-loop-f l =
    let k = l.self.kept in
    (f : ℕ) → f < l.f → T (bit k.pages pointer k.bits.now (l.start + f)) × Reference k.pages k.table.now k.bits.now (get_or l.self.arena.now (l.start + f) 0)

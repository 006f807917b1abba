-- The invariant: the bits that are not left were taken, and their words hold references. The measure: what lies from the lowest bit that is left on.
use Rattle.model.specs.Memory.{word_bits}
use Rattle.audit_words.proofs.Blocks.{BitsTaken}
use lib.Count.{count_trailing_zeros}
use mathlib.Core.Path.{◌≡◌}
use Prim.Native.Nat.{◌-◌, ◌*◌, ◌^◌, ◌<◌}
use Rattle.audit_words.proofs.Words.block_ok.Given as goal

abbrev pub invariant-loop-left : goal.invariant-loop-left
invariant-loop-left l = (l.first ≡ word_bits * l.at) × (l.left < 2 ^ 64) × BitsTaken l.self.kept.pages l.self.arena.now l.self.kept.table.now l.self.kept.bits.now l.at l.pointers l.left

abbrev pub decreases-loop-left : goal.decreases-loop-left
decreases-loop-left l = 64 - count_trailing_zeros 64 l.left

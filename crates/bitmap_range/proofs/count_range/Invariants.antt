-- The invariant: `total` is the number of bits that are on in the words before the one at hand.
use Rattle.std.proofs.Common.{◌≡◌, ◌+◌, ◌*◌}
use Rattle.model.specs.Bounded.{count_below}
use Rattle.model.specs.Bitmaps.{bit_at}
use Rattle.bitmap_range.proofs.count_range.Given as goal

abbrev pub invariant-loop-w : goal.invariant-loop-w
invariant-loop-w l = l.total ≡ count_below (l.w-index * 64) (λ j. bit_at l.ws (l.first * 64 + j))

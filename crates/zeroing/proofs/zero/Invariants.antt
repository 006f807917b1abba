-- The invariant: the words before the one at hand are 0.
use Rattle.std.proofs.Common.{◌≡◌, take, replicate}
use Rattle.zeroing.proofs.zero.Given as goal

abbrev pub invariant-loop-w : goal.invariant-loop-w
invariant-loop-w g l = take l.w-index l.ws ≡ replicate l.w-index g.T.HasZero.ZERO

use native.Mathlib.Omega.{arith}
use Rattle.bitmap.proofs.Zeros.{four_more}
use Rattle.bitmap.proofs.past_zeros.Goals as goal

pub loop-at-preserved : goal.loop-at-preserved
loop-at-preserved c =
    (omega arith, omega arith, four_more c.args.ws.now c.args.from c.loop-at.at c.loop-at.invariant.2 c.if-some-ne0.false)

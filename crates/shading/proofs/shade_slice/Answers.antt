use native.Mathlib.Omega.{arith}
use Rattle.shading.proofs.Shades.{at_most_one, none_shaded, one_more}
use Rattle.shading.proofs.shade_slice.Goals as goal

pub loop-v-init : goal.loop-v-init
loop-v-init c = (omega arith, none_shaded _ _ _ _)

pub loop-v-preserved : goal.loop-v-preserved
loop-v-preserved c = (omega (arith, at_most_one c.shade-count.ensures), one_more _ _ _ _ _ c.loop-v.invariant.1 c.shade-count.ensures)

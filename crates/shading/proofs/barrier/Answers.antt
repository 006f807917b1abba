-- What two shadings leave in the mark phase; nothing outside it.
use Rattle.shading.proofs.Shades.{no_barrier, shaded_both}
use Rattle.shading.proofs.barrier.Goals as goal

pub returns-then-roots-eq-MARK : goal.returns-then-roots-eq-MARK
returns-then-roots-eq-MARK c = λ a. shaded_both _ a _ _ _ _ _ c.if-roots-eq-MARK.true c.shade.ensures c.shade-then-roots-eq-MARK.ensures

pub returns-else-roots-eq-MARK : goal.returns-else-roots-eq-MARK
returns-else-roots-eq-MARK c = λ a. no_barrier _ a _ _ _ _ _ c.if-roots-eq-MARK.false

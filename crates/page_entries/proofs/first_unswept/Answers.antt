use Rattle.page_entries.proofs.Search.{lowest, none}
use Rattle.page_entries.proofs.first_unswept.Goals as goal
use native.Mathlib.Omega.{arith}

pub returns-in-Some : goal.returns-in-Some
returns-in-Some c = lowest _ _ _ _ c.loop-s-test.true c.loop-s.invariant c.in-Some.ensures

pub returns : goal.returns
returns c = none _ _ (λ k l. c.loop-s.invariant k (omega arith))

use native.Mathlib.Omega.{arith}
use Rattle.element_search.proofs.Search.{none_yet, one_more}
use Rattle.element_search.proofs.free_between.Goals as goal

pub loop-s-init : goal.loop-s-init
loop-s-init c = none_yet _

pub returns-in-Some : goal.returns-in-Some
returns-in-Some c a o =
    record { page = c.loop-s.s; low = omega arith; high = omega arith; before = λ k x y. c.loop-s.invariant k x y a o; here = c.in-Some.ensures a o }

pub loop-s-preserved : goal.loop-s-preserved
loop-s-preserved c = one_more _ _ c.loop-s.invariant c.in_default.ensures

pub returns : goal.returns
returns c a o = λ k x y. c.loop-s.invariant k x (omega arith) a o

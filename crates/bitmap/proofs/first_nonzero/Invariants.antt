-- The invariant: the words from `from` on and before word `at` are 0.
use Rattle.bitmap.specs.Search.{Zeros}
use Rattle.bitmap.proofs.first_nonzero.Given as goal

abbrev pub invariant-loop-at : goal.invariant-loop-at
invariant-loop-at l = Zeros l.ws l.from l.at

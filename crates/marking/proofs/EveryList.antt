-- THE THEOREM: the three claims hold after every list of calls that follows a setup.
use Rattle.marking.specs.Trace.{setup}
use Rattle.marking.specs.EveryList.{EveryList}
use Rattle.marking.proofs.Freed.{reached, fresh_reached}
use Rattle.marking.proofs.Correct.{reached_correct}
use Rattle.marking.proofs.Exact.{reached_exact}
use Rattle.marking.proofs.Advance.{advancing}

pub every_list : EveryList
every_list H₀ H₁ H₂ es (setup _ F) ss =
    let N = reached ss (fresh_reached H₁ F) in
    record { correct = reached_correct N; exact = reached_exact N.agrees; advancing = advancing N.agrees }

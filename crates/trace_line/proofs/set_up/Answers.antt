-- `trace_line::set_up` meets its contract: P out of reach, or the setup's own contract.
use Rattle.std.proofs.Common.{sym}
use Rattle.trace_line.proofs.Outcomes.{plays_refused, plays_setup}
use Rattle.trace_line.proofs.set_up.Goals as goal

pub returns-then-not-in_reach-clause-plays : goal.returns-then-not-in_reach-clause-plays
returns-then-not-in_reach-clause-plays c = plays_refused _ c.args.p (sym c.if-not-in_reach.ensures) (rw c.from.ensures at c.write_answer-e.ensures)

pub returns-clause-plays : goal.returns-clause-plays
returns-clause-plays c = plays_setup _ c.args.p (sym c.if-not-in_reach.ensures) c.make-answer.ensures.makes c.is_accepted-more.ensures c.write_answer-e-2.ensures

-- `trace_line::later_line` meets its contract: a line that is no call, or what the call and its answer promise.
use Rattle.std.proofs.Common.{◌≡◌, Some, true}
use Rattle.model.specs.declared.Call.{Call as AnyCall}
use Rattle.trace_read.specs.declared.Line.TheVariants.{Call}
use Rattle.trace_line.proofs.Outcomes.{not_call, plays, plays_bad}
use Rattle.trace_line.proofs.later_line.Goals as goal
use Rattle.trace_line.proofs.later_line.Goals.{in_default-via-in-Some+in_default, in_default-via-in_default}

pub returns-in_default-clause-plays : goal.returns-in_default-clause-plays
returns-in_default-clause-plays c =
    let none : (d : AnyCall) → c.read.result ≡ Some (Call d) → ⊥ = λ d h. elim c.in_default.branch [ in_default-via-in-Some+in_default w ↦ (cc) | in_default-via-in_default w ↦ (cc) ] in
    rw (← c.read.ensures, not_call c.read.result none) (plays_bad c.args.number c.write_bad-e.ensures)

pub returns-clause-plays : goal.returns-clause-plays
returns-clause-plays c = rw (← c.in-Some-Call.ensures, c.in-Some-Call.field-0-is) (plays true c.make-answer.ensures.makes c.write_answer-e.ensures)

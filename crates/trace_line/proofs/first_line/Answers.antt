-- `trace_line::first_line` meets its contract: a line that is not H, or what `set_up` promises.
use Rattle.std.proofs.Common.{◌≡◌, ℕ, Some}
use Rattle.trace_read.specs.declared.Line.TheVariants.{Setup}
use Rattle.trace_line.proofs.Outcomes.{not_setup, plays_bad}
use Rattle.trace_line.proofs.first_line.Goals as goal
use Rattle.trace_line.proofs.first_line.Goals.{in_default-via-in-Some+in_default, in_default-via-in_default}

pub returns-in_default-clause-plays : goal.returns-in_default-clause-plays
returns-in_default-clause-plays c =
    let none : (p : ℕ) → c.read.result ≡ Some (Setup p) → ⊥ = λ p h. elim c.in_default.branch [ in_default-via-in-Some+in_default w ↦ (cc) | in_default-via-in_default w ↦ (cc) ] in
    rw (← c.read.ensures, not_setup c.read.result none) (plays_bad 1 c.write_bad-e.ensures)

pub returns-clause-plays : goal.returns-clause-plays
returns-clause-plays c = rw (← c.in-Some-Setup.ensures, c.in-Some-Setup.field-0-is) c.set_up.ensures.plays

use native.Mathlib.Omega.{arith}
use Rattle.model.specs.Answers.{◌given◌}
use Rattle.model.proofs.Refusals.{refusal_first, none_first}
use Rattle.root_checks.proofs.Passed.{and_row, handed_on}
use Rattle.std.proofs.lemmas.Bool.Decides.{nat_tests}
use Rattle.call_cycle_marks.proofs.Finishing.{finish_row}
use Rattle.call_cycle_marks.proofs.check_finish.Goals as goal

pub returns-in_err-and : goal.returns-in_err-and
returns-in_err-and c = λ a t.
    let x = c.check_phase.ensures c.args.p a t c.args.bits.now in
    let y = c.check_roots.ensures c.args.p a t c.args.bits.now in
    grind (arith, and_row, finish_row, refusal_first, handed_on c.from_residual.result _ c.from_residual.ensures.1)

pub returns-in-Some : goal.returns-in-Some
unfolding ◌given◌
returns-in-Some c = λ a t.
    let x = c.check_phase.ensures c.args.p a t c.args.bits.now in
    let y = c.check_roots.ensures c.args.p a t c.args.bits.now in
    let z = c.in-Some.ensures a t c.args.roots.now in
    grind (arith, and_row, finish_row, none_first, nat_tests)

pub returns-in-None : goal.returns-in-None
unfolding ◌given◌
returns-in-None c = λ a t.
    let x = c.check_phase.ensures c.args.p a t c.args.bits.now in
    let y = c.check_roots.ensures c.args.p a t c.args.bits.now in
    let z = c.in-None.ensures a t c.args.roots.now in
    grind (arith, and_row, finish_row, none_first, nat_tests)

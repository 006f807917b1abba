use Rattle.std.proofs.lemmas.Result.{err_from_is_err_and}
use mathlib.Core.Path.{sym, ◌∙◌}
use Rattle.model.proofs.Checks.{lengths_passed}
use Rattle.model.proofs.Refusals.{number_some}
use Rattle.audit.proofs.Refusals.{refused_lengths, damaged_buffers, good_entry}
use Rattle.audit.proofs.entry.Goals as goal

pub returns-in_err-check_buffers : goal.returns-in_err-check_buffers
returns-in_err-check_buffers c =
    let p = err_from_is_err_and c.from_residual.result c.from_residual.ensures.1 in
    rw (p.1, p.2) (refused_lengths _ c.in_err-check_buffers.ensures (number_some _))

pub audit-requires : goal.audit-requires
audit-requires c = lengths_passed _ (sym c.in_ok-check_buffers.ensures)

pub returns-then-not-audit : goal.returns-then-not-audit
returns-then-not-audit c = damaged_buffers _ (sym c.in_ok-check_buffers.ensures) (sym c.audit.ensures ∙ c.if-not-audit.true)

pub returns : goal.returns
returns c = good_entry _ (sym c.in_ok-check_buffers.ensures) (sym c.audit.ensures ∙ c.if-not-audit.false)

-- Refused, or the field read into the slot.
use Rattle.model.specs.Memory.{lent}
use Rattle.model.specs.Records.{load}
use Rattle.root_checks.proofs.Passed.{call_refused}
use Rattle.call_records.proofs.Accesses.{loaded}
use Rattle.call_records.proofs.load.Goals as goal

pub returns-in_err-from : goal.returns-in_err-from
unfolding load
returns-in_err-from c = call_refused _ _ c.from_residual.ensures.1 (lent c.args.p c.args.arena.now c.args.table.now c.args.bits.now c.args.roots.now) (c.in_err-from.ensures.found c.args.arena.now) _ _

pub returns : goal.returns
returns c = let t = c.in_ok-from.ensures.found c.args.arena.now in loaded c.requires _ _ _ _ t.0 t.1 c.slot_at-to.ensures

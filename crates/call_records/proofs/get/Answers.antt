-- Refused, or the field read.
use Rattle.model.specs.Memory.{lent}
use Rattle.model.specs.Records.{get}
use Rattle.root_checks.proofs.Passed.{call_refused}
use Rattle.call_records.proofs.Accesses.{got}
use Rattle.call_records.proofs.get.Goals as goal

pub returns-in_err-at : goal.returns-in_err-at
unfolding get
returns-in_err-at c = call_refused _ _ c.from_residual.ensures.1 (lent c.args.p c.args.arena.now c.args.table.now c.args.bits.now c.args.roots.now) (c.in_err-at.ensures.found c.args.arena.now) _ _

pub returns : goal.returns
returns c = let t = c.in_ok-at.ensures.found c.args.arena.now in got (lent _ _ _ _ _) _ _ _ t.0 t.1

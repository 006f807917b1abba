-- Refused, or the field written.
use Rattle.model.specs.Memory.{lent}
use Rattle.model.specs.Records.{put}
use Rattle.root_checks.proofs.Passed.{call_refused}
use Rattle.call_records.proofs.Accesses.{put_there}
use Rattle.call_records.proofs.put.Goals as goal

pub returns-in_err-to : goal.returns-in_err-to
unfolding put
returns-in_err-to c = call_refused _ _ c.from_residual.ensures.1 (lent c.args.p c.args.arena.now c.args.table.now c.args.bits.now c.args.roots.now) (c.in_err-to.ensures.found c.args.arena.now) _ _

pub returns : goal.returns
returns c = let t = c.in_ok-to.ensures.found c.args.arena.now in put_there (lent _ _ _ _ _) _ _ _ t.0 t.1 _

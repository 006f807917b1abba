-- Refused, or the field written, after the barrier.
use Rattle.model.specs.Memory.{lent}
use Rattle.model.specs.Records.{store}
use Rattle.root_checks.proofs.Passed.{call_refused}
use Rattle.call_records.proofs.Accesses.{pointer_stored, stored}
use Rattle.call_records.proofs.store.Goals as goal

pub returns-in_err-at : goal.returns-in_err-at
unfolding store
returns-in_err-at c = call_refused _ _ c.from_residual.ensures.1 (lent c.args.p c.args.arena.now c.args.table.now c.args.bits.now c.args.roots.now) (c.in_err-at.ensures.found c.args.arena.now) _ _

pub barrier-requires : goal.barrier-requires
barrier-requires c = let t = c.in_ok-at.ensures.found c.args.arena.now in pointer_stored c.requires _ _ _ _ t.0 t.1 c.slot_at-slot.ensures

pub returns : goal.returns
returns c = let t = c.in_ok-at.ensures.found c.args.arena.now in stored c.requires _ _ _ _ t.0 t.1 c.slot_at-slot.ensures (c.barrier.ensures c.args.arena.now)

-- `record_room::pages_for` meets its contract: a run is long enough, no span is unswept, or spans are swept.
use native.Mathlib.Omega.{arith}
use Rattle.model.specs.Memory.{lent}
use Rattle.record_room.proofs.Room.{run_at_once, none_to_return}
use Rattle.record_room.proofs.pages_for.Goals as goal

pub best_run-requires : goal.best_run-requires
best_run-requires c = (c.requires.0.2.sized.table, omega (arith, c.requires.2))

pub returns-in-Some-clause-sweeps : goal.returns-in-Some-clause-sweeps
returns-in-Some-clause-sweeps c a o F = run_at_once (lent c.args.tables.now.pages a c.args.tables.now.table.now c.args.tables.now.bits.now o) c.args.n c.in-Some.ensures

pub returns-then-swept-clause-sweeps : goal.returns-then-swept-clause-sweeps
returns-then-swept-clause-sweeps c a o F = none_to_return (lent c.args.tables.now.pages a c.args.tables.now.table.now c.args.tables.now.bits.now o) c.args.n c.in_default.ensures (c.requires.1 c.if-swept.true)

pub sweep_pages-requires : goal.sweep_pages-requires
sweep_pages-requires c = (c.requires.0, omega (arith, c.in_default.ensures), c.requires.2)

-- `record_room::element_for` meets its contract: an element is free, no span is unswept, or spans of the kind are swept.
use native.Mathlib.Omega.{arith}
use Rattle.std.specs.Prelude.{Some, None}
use Rattle.model.specs.Memory.{lent}
use Rattle.element_search.proofs.Search.{of_all}
use Rattle.model.proofs.Lent.{audited_mapped}
use Rattle.record_room.proofs.Room.{free_at_once, none_to_sweep}
use Rattle.record_room.proofs.element_for.Goals as goal

pub free_between-requires : goal.free_between-requires
free_between-requires c = (audited_mapped c.requires.0.2, omega arith)

pub returns-in-Some-clause-sweeps : goal.returns-in-Some-clause-sweeps
returns-in-Some-clause-sweeps c a o F =
    let h = lent c.args.tables.now.pages a c.args.tables.now.table.now c.args.tables.now.bits.now o in
    free_at_once c.args.kind (of_all h c.args.kind (Some c.in-Some.word) (c.in-Some.ensures a o))

pub returns-then-swept-clause-sweeps : goal.returns-then-swept-clause-sweeps
returns-then-swept-clause-sweeps c a o F =
    let h = lent c.args.tables.now.pages a c.args.tables.now.table.now c.args.tables.now.bits.now o in
    none_to_sweep c.args.kind (of_all h c.args.kind None (c.in_default.ensures a o)) (c.requires.1 c.if-swept.true)

pub sweep_kind-requires : goal.sweep_kind-requires
sweep_kind-requires c = (c.requires.0, λ a o. of_all (lent c.args.tables.now.pages a c.args.tables.now.table.now c.args.tables.now.bits.now o) c.args.kind None (c.in_default.ensures a o))

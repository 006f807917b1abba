-- `room_sweeps::sweep_any` meets its contract: no unswept span there, one that stays, or one whose pages are returned.
use native.Mathlib.Omega.{arith}
use Rattle.model.specs.Memory.{lent}
use Rattle.model.specs.Allocate.{any_span}
use Rattle.room_sweeps.proofs.Turns.{no_next, next_any, readable, swept_mapped, none_swept, stays_swept, returned_swept}
use Rattle.room_sweeps.proofs.Tables.sweep_any.Goals as goal

pub returns-in_err-span-clause-turn : goal.returns-in_err-span-clause-turn
returns-in_err-span-clause-turn c a o F =
    let h = lent c.args.self.now.pages a c.args.self.now.table.now c.args.self.now.bits.now o in
    rw c.from_residual.ensures (none_swept _ _ h (no_next h _ c.in_err-span.ensures any_span))

pub sweep-swept-requires : goal.sweep-swept-requires
sweep-swept-requires c = readable c.requires.0 c.in_ok-span.ensures

pub returns-then-swept-eq0-clause-turn : goal.returns-then-swept-eq0-clause-turn
returns-then-swept-eq0-clause-turn c a o F =
    let h = lent c.args.self.now.pages a c.args.self.now.table.now c.args.self.now.bits.now o in
    let X = c.in_ok-span.ensures in
    stays_swept _ _ h (next_any h _ _ X) X.1.start (c.sweep-swept.ensures a o) F.spans c.if-swept-eq0.true

pub run_around-requires : goal.run_around-requires
run_around-requires c = ((swept_mapped c.requires.0 c.in_ok-span.ensures c.sweep-swept.ensures).table, omega (arith, c.requires.1))

pub returns-clause-turn : goal.returns-clause-turn
returns-clause-turn c a o F =
    let h = lent c.args.self.now.pages a c.args.self.now.table.now c.args.self.now.bits.now o in
    let X = c.in_ok-span.ensures in
    returned_swept _ _ h (next_any h _ _ X) X.1.start (c.sweep-swept.ensures a o) F c.requires.2 c.requires.3 c.if-swept-eq0.false c.run_around.ensures

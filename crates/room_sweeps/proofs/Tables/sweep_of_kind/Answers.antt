-- `room_sweeps::sweep_of_kind` meets its contract: no unswept span there, one of another kind, or one that is swept.
use native.Mathlib.Omega.{arith}
use Rattle.model.specs.Memory.{lent}
use Rattle.model.specs.Allocate.{of_kind}
use Rattle.element_search.proofs.Search.{of_one}
use Rattle.room_sweeps.proofs.Turns.{no_next, next_other, next_kind, readable, swept_mapped, no_span, swept_one}
use Rattle.room_sweeps.proofs.Tables.sweep_of_kind.Goals as goal

pub returns-in_err-span-clause-turn : goal.returns-in_err-span-clause-turn
returns-in_err-span-clause-turn c a o =
    let h = lent c.args.self.now.pages a c.args.self.now.table.now c.args.self.now.bits.now o in
    rw c.from_residual.ensures (no_span _ _ h (no_next h _ c.in_err-span.ensures (of_kind c.args.kind)))

pub returns-then-of_kind-kind-clause-turn : goal.returns-then-of_kind-kind-clause-turn
returns-then-of_kind-kind-clause-turn c a o =
    let h = lent c.args.self.now.pages a c.args.self.now.table.now c.args.self.now.bits.now o in
    no_span _ _ h (next_other h _ _ c.in_ok-span.ensures _ c.if-of_kind-kind.true)

pub sweep-requires : goal.sweep-requires
sweep-requires c = readable c.requires.0 c.in_ok-span.ensures

pub free_between-requires : goal.free_between-requires
free_between-requires c = (swept_mapped c.requires.0 c.in_ok-span.ensures c.sweep.ensures, omega (arith, c.requires.1))

pub returns-clause-turn : goal.returns-clause-turn
returns-clause-turn c a o =
    let h = lent c.args.self.now.pages a c.args.self.now.table.now c.args.self.now.bits.now o in
    let X = c.in_ok-span.ensures in
    swept_one _ _ h (next_kind h _ _ X _ c.if-of_kind-kind.false) X.1.start (c.sweep.ensures a o) (of_one _ _ _ _ (c.free_between.ensures a o))

use Rattle.std.proofs.Common.{◌≡◌, ◌+◌, ◌-◌, sym, arith}
use Rattle.model.proofs.Bounded.{count_none}
use Rattle.bitmap_range.proofs.Slices.{counted, part_length}
use Rattle.bitmap_range.proofs.count_range.Goals as goal

pub loop-w-init : goal.loop-w-init
loop-w-init c = sym (count_none _)

pub overflow_add-total : goal.overflow_add-total
overflow_add-total c =
    let a = c.args in
    let e = part_length a.ws.now a.first a.n c.requires.0 in
    omega (arith, e, counted a.ws.now a.first ((a.first + a.n) - a.first) c.loop-w.w-index (λ x. (c.type_inv.ws x).fits) (omega (arith, e)) c.loop-w.invariant)

pub loop-w-preserved : goal.loop-w-preserved
loop-w-preserved c =
    let a = c.args in
    let e = part_length a.ws.now a.first a.n c.requires.0 in
    grind (arith, (counted a.ws.now a.first ((a.first + a.n) - a.first) c.loop-w.w-index (λ x. (c.type_inv.ws x).fits) (omega (arith, e)) c.loop-w.invariant).sum)

pub returns : goal.returns
returns c =
    let e : c.loop-w.w-index ≡ c.args.n = omega (arith, part_length c.args.ws.now c.args.first c.args.n c.requires.0) in
    rw e at c.loop-w.invariant

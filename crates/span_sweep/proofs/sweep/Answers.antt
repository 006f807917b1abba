-- Two counts tell what is freed and whether something is left; then the bitmaps are swept, and the table's entry.
use Rattle.std.proofs.Common.{arith}
use Rattle.span_sweep.proofs.Bounds.{bounds}
use Rattle.span_sweep.proofs.Swept.{counts, sweep_frees, sweep_keeps}
use Rattle.span_sweep.proofs.sweep.Goals as goal

pub overflow_sub-freed : goal.overflow_sub-freed
overflow_sub-freed c =
    (counts c.requires c.first_block-first.ensures (omega arith) c.count_range-allocated.ensures c.count_range-kept.ensures).less

pub clear_freed-requires : goal.clear_freed-requires
clear_freed-requires c = (c.args.table.now, c.requires)

pub returns-then-kept-eq0 : goal.returns-then-kept-eq0
returns-then-kept-eq0 c =
    sweep_frees c.requires c.first_block-first.ensures (omega arith) c.count_range-allocated.ensures c.count_range-kept.ensures
    (c.clear_freed.ensures c.args.table.now c.requires) c.move_range.ensures (omega arith) c.free_span.ensures

pub make_swept-requires : goal.make_swept-requires
make_swept-requires c =
    record { starts = record { entry = omega (arith, bounds c.requires.sweepable); first = c.requires.sweepable.starts }; reads = c.requires.reads }

pub returns : goal.returns
returns c =
    sweep_keeps c.requires c.first_block-first.ensures (omega arith) c.count_range-allocated.ensures c.count_range-kept.ensures
    (c.clear_freed.ensures c.args.table.now c.requires) c.move_range.ensures c.if-kept-eq0.false c.make_swept.ensures

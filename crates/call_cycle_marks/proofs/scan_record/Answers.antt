-- The gray bit goes, and the pointer words are shaded.
use mathlib.Core.Path.{refl}
use native.Mathlib.Omega.{arith}
use Rattle.model.specs.Memory.{lent}
use Rattle.shading.proofs.References.{part_shaded}
use Rattle.call_cycle_marks.proofs.Marking.{gray_record, gray_place, gray_words, record_scanned}
use Rattle.call_cycle_marks.proofs.scan_record.Goals as goal

pub pointer_count-n-requires : goal.pointer_count-n-requires
pointer_count-n-requires c = gray_record c.requires.1

pub overflow_add-p : goal.overflow_add-p
overflow_add-p c = let place = gray_place c.requires.1 in omega arith

pub clear-requires : goal.clear-requires
clear-requires c = let place = gray_place c.requires.1 in omega arith

pub overflow_add-at : goal.overflow_add-at
overflow_add-at c = let place = gray_place c.requires.1 in omega (arith, c.pointer_count-n.ensures c.args.arena.now c.requires.0)

pub offset_bounds-arena-at : goal.offset_bounds-arena-at
offset_bounds-arena-at c = let place = gray_place c.requires.1 in omega arith

pub slice_bounds-shade_slice-end : goal.slice_bounds-shade_slice-end
slice_bounds-shade_slice-end c = let place = gray_place c.requires.1 in omega (arith, c.pointer_count-n.ensures c.args.arena.now c.requires.0)

pub shade_slice-requires : goal.shade_slice-requires
shade_slice-requires c = gray_words c.requires.1 _ c.clear.auto.ws _ (omega (arith, c.pointer_count-n.ensures c.args.arena.now c.requires.0))

pub returns : goal.returns
returns c =
    let e = c.args in
    let place = gray_place c.requires.1 in
    let n = c.pointer_count-n.ensures e.arena.now c.requires.0 in
    λ r. record_scanned (lent e.p e.arena.now e.table.now e.bits.now r) e.w.0 (c.pointer_count-n.ensures e.arena.now r) c.clear.ensures
    (part_shaded e.arena.now e.w.0 _ _ refl (omega arith) c.shade_slice.ensures)

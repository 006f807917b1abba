-- The search for the end of the run of pointer bits.
use native.Mathlib.Omega.{arith}
use Rattle.call_cycle_marks.proofs.Marking.{lies, pointer_search}
use Rattle.call_cycle_marks.proofs.pointer_count.Goals as goal

pub overflow_add-first-2 : goal.overflow_add-first-2
overflow_add-first-2 c = let place = lies c.requires c.span_with_word-span.ensures c.element_words-size.result (cc) in omega arith

pub first_clear-requires : goal.first_clear-requires
first_clear-requires c = let place = lies c.requires c.span_with_word-span.ensures c.element_words-size.result (cc) in (omega arith, omega arith)

pub returns : goal.returns
returns c =
    let e = c.args in
    let place = lies c.requires c.span_with_word-span.ensures c.element_words-size.result (cc) in
    λ a o. omega (arith, pointer_search e.p e.bits.now e.w.0 _ place.inside a e.table.now o place.words, c.first_clear.ensures)

use Rattle.std.proofs.Common.{ℕ, sym, ◌∙◌, arith, rules}
use borrow.Author.Tests.{not-true}
use Rattle.span_sweep.proofs.Pointers.{measured, noscan_same, loop_begun, loop_asked, loop_turn, loop_next, loop_end}
use Rattle.span_sweep.proofs.clear_freed.Goals as goal

pub returns-then-not-span : goal.returns-then-not-span
returns-then-not-span c t R =
    let a = c.args in
    noscan_same a.p t a.bits.now a.span.start.0 R.sweepable (λ x. (c.type_inv.bits x).fits) (sym R.reads.scan ∙ not-true _ c.if-not-span.true)

pub loop-freed-init : goal.loop-freed-init
loop-freed-init c = let fit = λ (x : ℕ). (c.type_inv.bits x).fits in (fit, λ t M. loop_begun fit M _ c.first_word-from.ensures)

pub next_freed-requires : goal.next_freed-requires
next_freed-requires c =
    let M = measured c.args.span c.requires.1 c.element_words-size.ensures c.first_word-to.ensures in
    let asked = loop_asked c.loop-freed.invariant.0 M (c.loop-freed.invariant.1 c.requires.0 M) in
    (asked.tables, record { order = asked.begun; inside = asked.inside; whole = asked.aligned })

pub clear_range-requires : goal.clear_range-requires
clear_range-requires c =
    let M = measured c.args.span c.requires.1 c.element_words-size.ensures c.first_word-to.ensures in
    omega (arith, loop_turn c.loop-freed.invariant.0 M (c.loop-freed.invariant.1 c.requires.0 M) c.in-Some.ensures)

pub overflow_add-from : goal.overflow_add-from
overflow_add-from c =
    let M = measured c.args.span c.requires.1 c.element_words-size.ensures c.first_word-to.ensures in
    omega (arith, loop_turn c.loop-freed.invariant.0 M (c.loop-freed.invariant.1 c.requires.0 M) c.in-Some.ensures)

pub loop-freed-smaller : goal.loop-freed-smaller
loop-freed-smaller c =
    let M = measured c.args.span c.requires.1 c.element_words-size.ensures c.first_word-to.ensures in
    omega (arith, loop_turn c.loop-freed.invariant.0 M (c.loop-freed.invariant.1 c.requires.0 M) c.in-Some.ensures)

pub loop-freed-preserved : goal.loop-freed-preserved
loop-freed-preserved c =
    let i = c.loop-freed.invariant in
    (i.0, λ t M. loop_next i.0 M (i.1 t M) c.in-Some.ensures c.clear_range.ensures)

pub returns : goal.returns
returns c t R =
    let M = measured c.args.span R c.element_words-size.ensures c.first_word-to.ensures in
    loop_end c.loop-freed.invariant.0 M (c.loop-freed.invariant.1 t M) (search rules)

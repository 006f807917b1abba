use mathlib.Core.Path.{sym, ◌∙◌}
use native.Mathlib.Omega.{arith}
use Rattle.model.specs.Spans.{kind_entry}
use Rattle.page_entries.proofs.Flags.{same, flagged, left}
use borrow.Author.Tests.{eqb-true, eqb-false}
use Rattle.page_entries.proofs.make_all_unswept.Goals as goal
use Rattle.page_entries.proofs.make_all_unswept.Goals.{then-starts_span, else-starts_span}

pub overflow_add-table-then-starts_span : goal.overflow_add-table-then-starts_span
unfolding kind_entry
overflow_add-table-then-starts_span c =
    let l = c.loop-page in
    let s = same _ _ _ _ l.invariant c.requires.table c.loop-page-test.true in
    omega (arith, s.kinds, c.requires.room l.page c.loop-page-test.true (sym s.owners ∙ eqb-true _ _ (sym c.starts_span.ensures ∙ c.if-starts_span.true)))

pub loop-page-preserved : goal.loop-page-preserved
unfolding kind_entry
loop-page-preserved c =
    let l = c.loop-page in
    elim c.if-starts_span.branch [
      | then-starts_span w ↦ rw w.table-is (flagged _ _ _ _ l.invariant c.requires.table c.loop-page-test.true (eqb-true _ _ (sym c.starts_span.ensures ∙ w.if-starts_span.true)))
      | else-starts_span w ↦ rw w.table-is (left _ _ _ _ l.invariant c.requires.table c.loop-page-test.true (eqb-false _ _ (sym c.starts_span.ensures ∙ w.if-starts_span.false)))
    ]

-- `classes::layout_of` meets its contract. No class has an element of 0 words.
use mathlib.Core.Path.{◌∙◌}
use native.Mathlib.Omega.{arith}
use borrow.Author.Tests.{eq-eqb}
use Rattle.model.specs.Classes.{element_words_of, elements_of}
use Rattle.class_table.proofs.Rows.{row_facts, row_layout}
use Rattle.classes.proofs.layout_of.Goals as goal

pub returns-then-c-eq0 : goal.returns-then-c-eq0
unfolding element_words_of elements_of
returns-then-c-eq0 c = let z = eq-eqb _ _ c.if-c-eq0.true in (rw z, rw z)

pub nonzero_div-count : goal.nonzero_div-count
nonzero_div-count c =
    let r = row_facts c.args.c (omega arith) (omega arith) in
    omega (arith, r.some, r.words, c.row_of-row.ensures.0)

pub returns : goal.returns
returns c = row_layout c.args.c _ (omega arith) (omega arith) (c.from-words.ensures ∙ c.row_of-row.ensures.0) (c.from.ensures ∙ c.row_of-row.ensures.1)

-- `classes::element_words` meets its contract.
use borrow.Author.Tests.{eq-eqb, ne_eqb}
use Rattle.model.specs.Classes.{element_words_of}
use Rattle.classes.proofs.element_words.Goals as goal

pub returns-then-c-eq0 : goal.returns-then-c-eq0
unfolding element_words_of
returns-then-c-eq0 c = rw (eq-eqb _ _ c.if-c-eq0.true)

pub returns : goal.returns
unfolding element_words_of
returns c = rw (ne_eqb _ _ c.if-c-eq0.false, c.from.ensures, c.row_of.ensures.0)

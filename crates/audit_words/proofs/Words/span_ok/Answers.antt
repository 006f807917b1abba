-- A swept span is tested by its pointer bits, an unswept one by its kept elements.
use Rattle.audit_words.proofs.Contents.{read_searched}
use Rattle.audit_words.proofs.Blocks.{read_swept}
use native.Mathlib.Omega.{arith}
use borrow.Author.Tests.{not-true, not-false}
use Rattle.audit_words.proofs.Words.span_ok.Goals as goal

pub returns-then-not-span : goal.returns-then-not-span
returns-then-not-span c = read_swept _ _ _ _ c.args.self.filled c.requires.1 c.requires.0 (not-true _ c.if-not-span.true) _ c.first_block-first.ensures c.blocks_ok.result c.blocks_ok.ensures

pub elements_ok-requires : goal.elements_ok-requires
elements_ok-requires c = read_searched _ _ _ _ c.args.self.filled c.requires.1 c.requires.0 _ _ _ c.element_words-n.ensures (rw (not-false c.args.span.unswept c.if-not-span.false) (omega arith)) (omega (arith, c.first_word.ensures))

-- No field, or what its pointer bit says.
use mathlib.Core.Path.{refl}
use native.Mathlib.Omega.{arith}
use Rattle.record_fields.proofs.Fields.{inside, no_field, pointer_there, number_there}
use Rattle.record_fields.proofs.field_of.Goals as goal

pub returns-then-element_words-field : goal.returns-then-element_words-field
returns-then-element_words-field c = λ a r. no_field c.requires c.span_with_word-span.ensures c.element_words.ensures _ a r c.if-element_words-field.true

pub overflow_add-at : goal.overflow_add-at
overflow_add-at c = omega (arith, inside c.requires c.span_with_word-span.ensures c.element_words.ensures c.args.f c.if-element_words-field.false, c.requires.0)

pub overflow_add-p : goal.overflow_add-p
overflow_add-p c = omega (arith, inside c.requires c.span_with_word-span.ensures c.element_words.ensures c.args.f c.if-element_words-field.false, c.requires.0)

pub test-requires : goal.test-requires
test-requires c = omega (arith, inside c.requires c.span_with_word-span.ensures c.element_words.ensures c.args.f c.if-element_words-field.false, c.requires.0)

pub returns-then-test : goal.returns-then-test
returns-then-test c = λ a r. pointer_there c.requires c.span_with_word-span.ensures c.element_words.ensures _ a r c.if-element_words-field.false c.if-test.ensures _ refl

pub returns : goal.returns
returns c = λ a r. number_there c.requires c.span_with_word-span.ensures c.element_words.ensures _ a r c.if-element_words-field.false c.if-test.ensures _ refl

-- Where no span is unswept, what is allocated is kept.
use Rattle.audit_references.proofs.References.{kept_is, kept_told}
use mathlib.Core.Path.{refl, ◌∙◌}
use Rattle.audit_references.proofs.Kept.contains.Goals as goal

pub returns-then-self : goal.returns-then-self
returns-then-self c = c.test.ensures ∙ kept_told c.args.self.mapped.spans (c.args.self.told c.if-self.true) _ _ c.requires

pub returns : goal.returns
returns c = c.test-2.ensures ∙ kept_is _ _ _ _ _ _ refl (rw c.span_with_word-span.ensures.unswept at c.kept_from-from.ensures) c.requires

use Rattle.audit_words.proofs.Contents.{pointer_is, stopped}
use Rattle.model.specs.Facts.{bit}
use Rattle.model.proofs.Tests.{is_true}
use Rattle.model.specs.Bitmaps.{pointer}
use borrow.Author.Count.{below_more}
use lib.Dec.{T}
use mathlib.Core.Path.{sym, ◌∙◌}
use Prim.Native.Nat.{◌+◌}
use Rattle.model.proofs.Answers.{yes, no}
use native.Mathlib.Omega.{arith}
use Rattle.audit_words.proofs.Words.pointers_ok.Goals as goal

pub returns-then-not-test : goal.returns-then-not-test
returns-then-not-test c = (λ _. stopped _ _ _ _ c.args.self.filled _ _ c.requires c.loop-f.f (omega arith) c.loop-f.invariant (sym (pointer_is _ _ _ _ _ (omega arith) (omega arith)) ∙ sym c.test.ensures ∙ c.if-not-test.true), λ _. tt)

pub returns-then-not-is_reference : goal.returns-then-not-is_reference
returns-then-not-is_reference c =
    let pointed : let k = c.args.self.kept in T (bit k.pages pointer k.bits.now (c.args.w.0 + c.loop-f.f)) = is_true _ (sym (pointer_is _ _ _ _ _ (omega arith) (omega arith)) ∙ sym c.test.ensures ∙ c.if-not-test.false) in
    (λ x. absurd x, λ h. no c.is_reference.result c.is_reference.ensures c.if-not-is_reference.true (h c.loop-f.f (omega arith) pointed))

pub loop-f-preserved : goal.loop-f-preserved
loop-f-preserved c =
    let pointed : let k = c.args.self.kept in T (bit k.pages pointer k.bits.now (c.args.w.0 + c.loop-f.f)) = is_true _ (sym (pointer_is _ _ _ _ _ (omega arith) (omega arith)) ∙ sym c.test.ensures ∙ c.if-not-test.false) in
    below_more _ _ c.loop-f.invariant (pointed, yes c.is_reference.result c.is_reference.ensures c.if-not-is_reference.false)

pub returns : goal.returns
returns c = (λ _ k m _. (c.loop-f.invariant k (omega arith)).1, λ _. tt)

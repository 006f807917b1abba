use native.Mathlib.Omega.{arith}
use Rattle.bitmap.proofs.Found.{found_some, found_none}
use Rattle.model.proofs.Answers.{yes, no}
use Rattle.audit_words.proofs.Contents.{found_element, found_pointers, passed, next, all}
use Rattle.audit_words.proofs.Words.elements_ok.Goals as goal

pub loop-i-init : goal.loop-i-init
loop-i-init c = (omega arith, omega (arith, c.first_word-first.ensures), λ w l m. absurd (omega arith))

pub pointers_ok-requires : goal.pointers_ok-requires
pointers_ok-requires c =
    let e = found_some _ _ _ c.in-Some.ensures in
    found_element _ _ _ _ c.args.self.filled _ _ _ _ c.requires _ c.first_word-first.ensures _ _ c.loop-i.invariant.0 e.0 (omega arith)

pub returns-then-not-pointers_ok : goal.returns-then-not-pointers_ok
returns-then-not-pointers_ok c =
    let e = found_some _ _ _ c.in-Some.ensures in
    (λ t. absurd t, λ h. no c.pointers_ok.result c.pointers_ok.ensures c.if-not-pointers_ok.true (found_pointers _ _ _ _ c.args.self.filled _ _ _ _ c.requires _ c.first_word-first.ensures _ _ c.loop-i.invariant.0 e.0 (omega arith) h))

pub loop-i-preserved : goal.loop-i-preserved
loop-i-preserved c =
    let e = found_some _ _ _ c.in-Some.ensures in
    (omega arith, omega arith, next _ _ _ _ c.args.self.filled _ _ _ _ c.requires _ c.first_word-first.ensures _ _ c.loop-i.invariant.0 e.0 c.loop-i.invariant.2 (λ _. yes c.pointers_ok.result c.pointers_ok.ensures c.if-not-pointers_ok.false))

pub returns : goal.returns
returns c =
    let e = found_none _ _ _ c.in_default.ensures in
    (λ _. all _ _ _ _ c.args.self.filled _ _ _ _ c.requires _ c.first_word-first.ensures c.args.end (omega arith) (passed _ _ _ _ c.args.self.filled _ _ _ _ c.requires _ c.first_word-first.ensures _ _ c.loop-i.invariant.0 (omega (arith, e)) c.loop-i.invariant.2), λ _. tt)

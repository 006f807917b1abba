use Rattle.std.proofs.Common.{rules, tests}
use Rattle.std.proofs.lemmas.Iterator.{cases_from_all, YieldsList-from_slice}
use Rattle.audit_references.specs.Kept.{IsReference}
use Rattle.audit_references.proofs.Ranges.{all_references}
use Rattle.audit_references.proofs.Kept.words_ok.Goals as goal

pub returns : goal.returns
returns c =
    let a = c.args in
    all_references _ _ _ a.words.now c.all.result
    (cases_from_all _ _ _ (IsReference a.self) (λ v. IsReference a.self v → ⊥) c.all.ensures.ran (YieldsList-from_slice a.words.now c.iter.ensures.rest) (λ x q k. search (rules, tests)) (λ x q k. search (rules, tests)))

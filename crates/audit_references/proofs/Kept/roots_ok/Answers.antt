-- The slots, then the globals.
use Rattle.model.specs.Memory.{first_global, first_state}
use Rattle.audit_references.proofs.Ranges.{range_join, range_part}
use Rattle.model.proofs.Answers.{yes, no}
use native.Mathlib.Omega.{arith}
use borrow.Author.Rules.{rules}
use Rattle.audit_references.proofs.Kept.roots_ok.Goals as goal

pub returns-then-slots_ok : goal.returns-then-slots_ok
returns-then-slots_ok c =
    let globals = range_part _ _ _ c.args.roots.now first_global first_state _ c.words_ok.result c.words_ok.ensures (search rules) (omega arith) (omega arith) in
    let slots = yes c.slots_ok.result c.slots_ok.ensures c.if-slots_ok.true in
    (λ x i l. range_join _ _ _ c.args.roots.now 0 first_global first_state slots (globals.0 x) i (omega arith) l, λ h. globals.1 (λ i l m. h i m))

pub returns-else-slots_ok : goal.returns-else-slots_ok
returns-else-slots_ok c = rw c.if-slots_ok.false (λ t. absurd t, λ h. no c.slots_ok.result c.slots_ok.ensures c.if-slots_ok.false (λ i l m. h i (omega arith)))

use Rattle.model.specs.Memory.{slot_count}
use Rattle.audit_references.proofs.Ranges.{range_join, closed_range, range_part}
use Rattle.model.proofs.Answers.{yes, no}
use Prim.Native.Nat.{◌*◌, ◌+◌}
use Rattle.audit_references.specs.Kept.{Range}
use native.Mathlib.Omega.{arith}
use borrow.Author.Rules.{rules}
use Rattle.audit_references.proofs.Kept.slots_ok.Goals as goal
use Rattle.audit_references.proofs.Kept.slots_ok.Goals.{else-state-ne-CLOSED-via-then-state-ne-CLOSED+else-not-words_ok, else-state-ne-CLOSED-via-else-state-ne-CLOSED}

pub returns-then-not-words_ok : goal.returns-then-not-words_ok
returns-then-not-words_ok c =
    let first = slot_count * c.loop-s.s in
    let slots = range_part _ _ _ c.args.roots.now first (first + slot_count) _ c.words_ok.result c.words_ok.ensures (search rules) (omega arith) (omega arith) in
    (λ t. absurd t, λ h. no c.words_ok.result slots c.if-not-words_ok.true (λ i l m. h i (omega arith) (omega arith)))

pub loop-s-preserved : goal.loop-s-preserved
loop-s-preserved c =
    let s = c.loop-s.s in
    let first = slot_count * s in
    let next : Range c.args.self c.args.roots.now first (first + slot_count) =
    elim c.else-state-ne-CLOSED.branch [
      | else-state-ne-CLOSED-via-then-state-ne-CLOSED+else-not-words_ok w ↦
          yes w.words_ok.result (range_part _ _ _ c.args.roots.now first (first + slot_count) _ w.words_ok.result w.words_ok.ensures (search rules) (omega arith) (omega arith)) w.if-not-words_ok.false
      | else-state-ne-CLOSED-via-else-state-ne-CLOSED w ↦ closed_range _ _ _ _ c.requires.1 s (omega arith) w.if-state-ne-CLOSED.false
    ] in
    λ i l m. range_join _ _ _ c.args.roots.now 0 first _ c.loop-s.invariant next i l (omega arith)

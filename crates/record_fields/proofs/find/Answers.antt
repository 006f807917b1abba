-- Each way out is one test of the chain.
use mathlib.Core.Path.{sym}
use native.Mathlib.Omega.{arith}
use borrow.Author.Tests.{eqb-false}
use Rattle.model.specs.Memory.{lent}
use Rattle.record_fields.proofs.Fields.{slot_record}
use Rattle.record_fields.proofs.Chains.{no_slots, no_record, named_slot}
use Rattle.record_fields.proofs.find.Goals as goal

pub returns-in_err-check_slots : goal.returns-in_err-check_slots
returns-in_err-check_slots c = λ a. no_slots (lent _ a _ _ _) _ _ _ _ _ _ c.from_residual.ensures.1 (c.in_err-check_slots.ensures.refusal _ a _ _)

pub returns-then-is_nil : goal.returns-then-is_nil
returns-then-is_nil c = λ a. no_record (lent _ a _ _ _) _ _ _ _ (c.in_ok-check_slots.ensures.refusal _ a _ _) (rw (← c.slot_at-slot.ensures) c.if-is_nil.ensures)

pub field_of-requires : goal.field_of-requires
field_of-requires c = rw c.word.ensures (slot_record c.requires.1 c.slot_at-slot.result (omega (arith, c.in_ok-check_slots.ensures.within)) (eqb-false _ _ (sym c.if-is_nil.ensures)))

pub returns : goal.returns
returns c = λ a.
    named_slot (lent _ a _ _ _) _ _ _ _ (c.in_ok-check_slots.ensures.refusal _ a _ _) (rw (← c.slot_at-slot.ensures) c.if-is_nil.ensures) _
    (rw (c.word.ensures, c.slot_at-slot.ensures) at (c.field_of.ensures a c.args.roots.now))

-- `call_allocate::allocate` meets its contract: refused, or the place that was chosen made and taken.
use mathlib.Core.Path.{refl}
use native.Mathlib.Omega.{arith}
use Rattle.std.proofs.lemmas.Result.{err_from_is_err_and}
use Rattle.model.proofs.Refusals.{number_some}
use Rattle.call_allocate.proofs.Whole.{refused_meets, accepted_facts, accepted_meets}
use Rattle.call_allocate.proofs.allocate.Goals as goal

pub choose-requires : goal.choose-requires
choose-requires c = (c.args.arena.now, c.requires)

pub returns-in_err-place : goal.returns-in_err-place
returns-in_err-place c =
    let p = err_from_is_err_and c.from_residual.result c.from_residual.ensures.1 in
    rw (p.1, p.2) (refused_meets c.requires (c.in_err-place.ensures c.args.arena.now c.requires) (number_some _))

pub extend-requires : goal.extend-requires
extend-requires c =
    let facts = accepted_facts c.requires (c.in_ok-place.ensures c.args.arena.now c.requires) refl in
    λ t. rw facts.shaped.pages (facts.extends t)

pub slot_at-slot-requires : goal.slot_at-slot-requires
slot_at-slot-requires c = let facts = accepted_facts c.requires (c.in_ok-place.ensures c.args.arena.now c.requires) refl in (facts.stack, facts.slot)

pub take-address-requires : goal.take-address-requires
take-address-requires c =
    let facts = accepted_facts c.requires (c.in_ok-place.ensures c.args.arena.now c.requires) refl in
    record { marks = facts.takes.marks; inside = omega (arith, facts.takes.inside, facts.shaped.words); slot = rw c.slot_at-slot.ensures facts.takes.slot }

pub returns : goal.returns
returns c =
    accepted_meets c.requires (c.in_ok-place.ensures c.args.arena.now c.requires) refl c.extend.ensures c.slot_at-slot.ensures
    (c.take-address.ensures c.choose.new.table)

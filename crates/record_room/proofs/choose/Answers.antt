-- `record_room::choose` meets its contract: the chain of refusals, link by link, and then the search.
use Rattle.std.proofs.Common.{ℕ, List, rules}
use Rattle.model.specs.Memory.{lent}
use Rattle.record_room.specs.Needs.{PlaceFor}
use Rattle.record_room.proofs.Room.{slot_refused, size_refused, not_refused, size_pages, left_in}
use Rattle.record_room.proofs.choose.Goals as goal

pub returns-in_err-check_slot : goal.returns-in_err-check_slot
returns-in_err-check_slot c a F =
    let h = lent c.args.p a c.args.table.now c.args.bits.now c.args.roots.now in
    slot_refused h c.args.s c.args.i c.args.size c.args.pointers _ _ c.from_residual.ensures.1 (c.in_err-check_slot.ensures.refusal _ a _ _)

pub returns-in_err-check_size : goal.returns-in_err-check_size
returns-in_err-check_size c a F =
    let h = lent c.args.p a c.args.table.now c.args.bits.now c.args.roots.now in
    size_refused h c.args.s c.args.i c.args.size c.args.pointers (c.in_ok-check_slot.ensures.refusal _ a _ _) _ _ c.from_residual-in_err-check_size.ensures.1 c.in_err-check_size.ensures

pub find-requires : goal.find-requires
find-requires c = (c.requires, rw c.shape_of-shape.ensures.pages (size_pages c.args.size c.args.pointers c.in_ok-check_size.ensures))

pub returns : goal.returns
returns c a F =
    let h = lent c.args.p a c.args.table.now c.args.bits.now c.args.roots.now in
    let place = not_refused h c.args.s c.args.i c.args.size c.args.pointers (c.in_ok-check_slot.ensures.refusal _ a _ _) c.in_ok-check_size.ensures c.shape_of-shape.ensures _ (c.find.ensures.finds a F) in
    let Q : List ℕ → List ℕ → Type 0 = λ t b. PlaceFor c.args.s c.args.i c.args.size c.args.pointers h (lent c.args.p a t b c.args.roots.now) c.find.result in
    left_in Q (search rules) (search rules) place

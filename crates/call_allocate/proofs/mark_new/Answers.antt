-- `call_allocate::mark_new` meets its contract.
use Rattle.model.specs.Memory.{lent}
use Rattle.call_allocate.proofs.Bits.{bits_marked, bits_plain}
use Rattle.call_allocate.proofs.mark_new.Goals as goal

pub returns-then-roots-eq-MARK : goal.returns-then-roots-eq-MARK
returns-then-roots-eq-MARK c a t =
    let s = c.args in
    bits_marked (lent s.p a t s.bits.now s.roots.now) s.w.0 s.pointers c.set.ensures c.set_range.ensures c.if-roots-eq-MARK.true c.set-then-roots-eq-MARK.ensures

pub returns-else-roots-eq-MARK : goal.returns-else-roots-eq-MARK
returns-else-roots-eq-MARK c a t =
    let s = c.args in
    bits_plain (lent s.p a t s.bits.now s.roots.now) s.w.0 s.pointers c.set.ensures c.set_range.ensures c.if-roots-eq-MARK.false

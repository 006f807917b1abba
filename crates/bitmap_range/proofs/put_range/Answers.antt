-- `bitmap_range::put_range` meets its contract. No bit; a run inside one word; or a run to the end of its first word, which goes on with the next.
use mathlib.Core.Path.{sym, ◌∙◌}
use native.Mathlib.Omega.{arith}
use lib.ListN.{length-set}
use Rattle.model.proofs.Bounded.{run_none}
use Rattle.bitmap_range.proofs.Ranges.{run_in_first, run_past_first}
use Rattle.bitmap_range.proofs.put_range.Goals as goal

pub returns-then-n-eq0 : goal.returns-then-n-eq0
returns-then-n-eq0 c = rw c.if-n-eq0.true (sym (run_none _ _ _ _))

pub returns-then-n-room : goal.returns-then-n-room
returns-then-n-room c =
    let a = c.args in
    rw c.put_bits.ensures (run_in_first a.from a.n a.on a.ws.now (omega arith) (omega arith))

pub put_from_word-requires : goal.put_from_word-requires
put_from_word-requires c = simp length-set (omega arith)

pub shape_of-ws : goal.shape_of-ws
shape_of-ws c = c.put_from_word.auto.ws ∙ simp length-set

pub returns : goal.returns
returns c =
    let a = c.args in
    c.put_from_word.ensures ∙ rw c.put_bits-2.ensures (run_past_first a.from a.n a.on a.ws.now (omega arith) (omega arith))

-- Words copied and then cleared are runs of bits.
use Rattle.std.proofs.Common.{arith, rules}
use Rattle.bitmap_range.proofs.Ranges.{move_bits}
use Rattle.bitmap_range.proofs.Slices.{copied}
use Rattle.bitmap_range.proofs.move_range.Goals as goal

pub returns : goal.returns
returns c =
    let a = c.args in
    let e = copied a.ws.now a.to a.from a.n (omega arith) (omega arith) c.copy_within.ensures.len c.copy_within.ensures.by_index in
    rw (c.zero_part.ensures, e) (move_bits a.to a.from a.n a.ws.now c.requires.0 c.requires.1 (λ x. search rules))

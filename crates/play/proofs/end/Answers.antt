-- `play::end` is safe: no line is longer than the longest.
use Rattle.std.proofs.Common.{sym, arith, length-take-le}
use Rattle.trace_write.proofs.Bytes.{bad_length}
use Rattle.play.proofs.end.Goals as goal

pub slice_bounds-write_out-end-3 : goal.slice_bounds-write_out-end-3
slice_bounds-write_out-end-3 c = omega (arith, c.write_bad-n.ensures.end, c.write_bad-n.auto.out, bad_length)

pub slice_bounds-write_out-end-4 : goal.slice_bounds-write_out-end-4
slice_bounds-write_out-end-4 c = sym (length-take-le c.write_bad-n.result c.write_bad-n.new.out (omega (arith, c.write_bad-n.ensures.end, c.write_bad-n.auto.out, bad_length)))

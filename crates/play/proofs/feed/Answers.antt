-- `play::feed` is safe and ends: each line taken has room in the line's buffer, and the block goes on behind it.
use Rattle.std.proofs.Common.{sym, arith, length-take-le, rules}
use Rattle.trace_split.proofs.Splitting.{short, line_taken}
use Rattle.play.proofs.feed.Goals as goal

pub left_over-requires : goal.left_over-requires
left_over-requires c = (c.loop-run.invariant.1, rw c.take-taken.ensures.0 (short _ _ _))

pub slice_bounds-play_line-end : goal.slice_bounds-play_line-end
slice_bounds-play_line-end c = omega (arith, (line_taken _ _ _ c.take-taken.ensures.0 c.in-Line.is).0, c.take-taken.auto.line, c.loop-run.invariant.2)

pub slice_bounds-play_line-end-in-loop-run : goal.slice_bounds-play_line-end-in-loop-run
slice_bounds-play_line-end-in-loop-run c = sym (length-take-le _ c.take-taken.new.line (omega (arith, (line_taken _ _ _ c.take-taken.ensures.0 c.in-Line.is).0, c.take-taken.auto.line, c.loop-run.invariant.2)))

pub loop-run-smaller : goal.loop-run-smaller
loop-run-smaller c =
    let t = line_taken _ _ _ c.take-taken.ensures.0 c.in-Line.is in
    omega arith

pub loop-run-preserved : goal.loop-run-preserved
loop-run-preserved c =
    let t = line_taken _ _ _ c.take-taken.ensures.0 c.in-Line.is in
    (search rules, c.play_line-run.ensures, omega (arith, c.take-taken.auto.line, c.loop-run.invariant.2), t.2)

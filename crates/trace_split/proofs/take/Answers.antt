-- `trace_split::take` meets its contract: each way out by the lemma of its name.
use native.Mathlib.Omega.{arith}
use Rattle.trace_split.proofs.Splitting.{none_copied, one_more, line_ends, block_ends, too_long}
use Rattle.trace_split.proofs.take.Goals as goal

pub loop-i-init : goal.loop-i-init
loop-i-init c = none_copied c.args.line.now c.args.used c.args.block.now c.args.from c.requires

pub returns-then-b-eq-LINE_FEED : goal.returns-then-b-eq-LINE_FEED
returns-then-b-eq-LINE_FEED c =
    let a = c.args in
    line_ends a.line.now a.used a.block.now a.from c.loop-i.invariant c.loop-i-test.true (omega arith)

pub returns-then-at-eq-LONGEST : goal.returns-then-at-eq-LONGEST
returns-then-at-eq-LONGEST c =
    let a = c.args in
    too_long a.line.now a.used a.block.now a.from c.loop-i.invariant c.loop-i-test.true c.if-b-eq-LINE_FEED.false (omega arith)

pub loop-i-preserved : goal.loop-i-preserved
loop-i-preserved c =
    let a = c.args in
    one_more a.line.now a.used a.block.now a.from c.loop-i.invariant (omega arith) c.if-b-eq-LINE_FEED.false (λ e. omega arith)

pub returns : goal.returns
returns c =
    let a = c.args in
    block_ends a.line.now a.used a.block.now a.from c.loop-i.invariant (omega arith)

use Prim.Native.Nat.{◌*◌}
use mathlib.Core.Path.{◌≡◌}
use Rattle.model.specs.Memory.{page_words, word_bits}
use native.Mathlib.Omega.{arith}
use Rattle.audit_bits.proofs.Turns.{stands_first, stands_next, block_words, fails, passes}
use Rattle.audit_bits.proofs.Blocks.blocks_ok.Goals as goal

pub loop-k-init : goal.loop-k-init
loop-k-init c = let a = c.args in stands_first a.self.pages a.self.bits.now c.first_block-first.result a.size a.held a.allowed (omega arith)

pub returns-then-not-block_ok : goal.returns-then-not-block_ok
returns-then-not-block_ok c =
    let first_word_lem : page_words * c.args.span.start.0 ≡ word_bits * c.first_block-first.result = omega (arith, c.first_block-first.ensures) in
    rw first_word_lem (fails _ _ _ (omega arith) (block_words _ _ _ _ _ _ _ c.starts-mask.ensures c.loop-k.invariant c.block_ok.ensures) c.if-not-block_ok.true)

pub loop-k-preserved : goal.loop-k-preserved
loop-k-preserved c =
    let n = c.next_start-off in
    rw c.saturating_sub-left.ensures
    (stands_next _ _ _ _ _ _ _ c.starts-mask.ensures c.loop-k.invariant (omega arith) n.result n.ensures.0 n.ensures.1
    (block_words _ _ _ _ _ _ _ c.starts-mask.ensures c.loop-k.invariant c.block_ok.ensures) c.if-not-block_ok.false)

pub returns : goal.returns
returns c =
    let first_word_lem : page_words * c.args.span.start.0 ≡ word_bits * c.first_block-first.result = omega (arith, c.first_block-first.ensures) in
    rw first_word_lem (passes _ _ _ (omega arith) c.loop-k.invariant.done)

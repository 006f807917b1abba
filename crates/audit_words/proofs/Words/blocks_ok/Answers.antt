use Rattle.audit_words.proofs.Blocks.{blocks_more, blocks_block}
use Rattle.model.proofs.Answers.{yes, no}
use native.Mathlib.Omega.{arith}
use Rattle.audit_words.proofs.Words.blocks_ok.Goals as goal

pub returns-then-not-block_ok : goal.returns-then-not-block_ok
returns-then-not-block_ok c =
    (λ c. absurd c, λ h. no c.block_ok.result c.block_ok.ensures c.if-not-block_ok.true (blocks_block _ c.args.self.arena.now _ _ _ _ c.loop-at.at (omega arith) (omega arith) c.requires.1 h))

pub loop-at-preserved : goal.loop-at-preserved
loop-at-preserved c =
    blocks_more _ c.args.self.arena.now _ _ _ c.loop-at.at (omega arith) c.loop-at.invariant (yes c.block_ok.result c.block_ok.ensures c.if-not-block_ok.false)

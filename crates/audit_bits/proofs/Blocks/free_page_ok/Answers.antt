use Prim.Native.Nat.{◌*◌}
use mathlib.Core.Path.{◌≡◌, ◌∙◌}
use Rattle.model.specs.Memory.{page_words, page_blocks, word_bits}
use native.Mathlib.Omega.{arith}
use Rattle.audit_bits.specs.Rules.{bare}
use Rattle.audit_bits.specs.Blocks.{said_of}
use Rattle.audit_bits.proofs.Turns.{more, fails, passes, block_from}
use Rattle.audit_bits.proofs.Blocks.free_page_ok.Goals as goal

pub returns-then-not-empty : goal.returns-then-not-empty
returns-then-not-empty c =
    let first_word_lem : page_words * c.args.g.0 ≡ word_bits * c.first_block-first.result = omega (arith, c.first_block-first.ensures) in
    rw first_word_lem (fails _ _ page_blocks (omega arith) (c.empty.ensures ∙ block_from (said_of bare c.args.self) c.first_block-first.result c.loop-k.k) c.if-not-empty.true)

pub loop-k-preserved : goal.loop-k-preserved
loop-k-preserved c = more _ c.loop-k.k c.loop-k.invariant (c.empty.ensures ∙ block_from (said_of bare c.args.self) c.first_block-first.result c.loop-k.k) c.if-not-empty.false

pub returns : goal.returns
returns c =
    let first_word_lem : page_words * c.args.g.0 ≡ word_bits * c.first_block-first.result = omega (arith, c.first_block-first.ensures) in
    rw first_word_lem (passes _ _ page_blocks (omega arith) c.loop-k.invariant)

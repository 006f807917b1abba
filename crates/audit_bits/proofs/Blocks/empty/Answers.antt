-- The bits of the block's words are those of its arena words.
use mathlib.Core.Path.{◌∙◌}
use Rattle.audit_bits.proofs.Masks.{bare_block}
use Rattle.audit_bits.proofs.Blocks.empty.Goals as goal

pub returns : goal.returns
returns c = (rw c.block.ensures at c.is_empty.ensures) ∙ bare_block c.args.self _ c.requires

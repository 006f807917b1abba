-- What is said of the four words of a block.
use Rattle.std.specs.Prelude.{ℕ, Bool, ◌&&◌, not}
use Rattle.audit_blocks.specs.Block.{on}
use Rattle.audit_bits.specs.declared.Block.{Block}

-- word j of the block has no bit in any part
abbrev pub clear : Block → ℕ → Bool
clear x j = not (on x.allocated j) && not (on x.marked j) && not (on x.gray j) && not (on x.pointers j)

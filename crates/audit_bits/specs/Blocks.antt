-- What is said of the bitmaps of so many pages, and their blocks.
use Rattle.std.specs.Prelude.{ℕ, ◌+◌, ◌*◌, List, get_or}
use Rattle.model.specs.Memory.{page_blocks, marked_part, gray_part, pointer_part}
use Rattle.audit_bits.specs.declared.Block.{Block}
use Rattle.audit_bits.specs.declared.Blocks.{Blocks}

-- what is said of so many pages and of their bitmaps
abbrev pub said_of {u} : {A : Type u} → (ℕ → List ℕ → A) → Blocks → A
said_of said x = said x.pages x.bits.now

-- the words of block `at`
abbrev pub block_at : Blocks → ℕ → Block
block_at x at = record {
  allocated = get_or x.bits.now at 0;
  marked = get_or x.bits.now (marked_part * (page_blocks * x.pages) + at) 0;
  gray = get_or x.bits.now (gray_part * (page_blocks * x.pages) + at) 0;
  pointers = get_or x.bits.now (pointer_part * (page_blocks * x.pages) + at) 0;
}

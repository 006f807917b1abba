-- The bit that is read is the definition's.
use Rattle.model.specs.Bitmaps.{bit_at, bit_of}
use borrow.Author.Rules.{rules}
use Rattle.bitmap.proofs.test.Goals as goal

pub returns : goal.returns
unfolding bit_at bit_of
returns c = search rules

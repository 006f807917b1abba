-- A word of ones moved up by `left` bits and turned has the bits below them.
use native.Mathlib.Omega.{arith}
use borrow.Author.Tests.{lt-ltb}
use mathlib.Core.Path.{sym, ◌∙◌}
use Rattle.audit_bits.proofs.Masks.{on_below, on_all}
use Rattle.audit_bits.proofs.below.Goals as goal

pub returns-then-left-lt-WORD_BITS : goal.returns-then-left-lt-WORD_BITS
returns-then-left-lt-WORD_BITS c = on_below c.args.left

pub returns-else-left-lt-WORD_BITS : goal.returns-else-left-lt-WORD_BITS
returns-else-left-lt-WORD_BITS c = λ j l. on_all j l ∙ sym (lt-ltb j c.args.left (omega arith))

-- The mask moved up; where the first start lies behind the block there is none.
use native.Mathlib.Omega.{arith}
use borrow.Author.Tests.{lt-leb}
use Rattle.audit_bits.proofs.Masks.{on_up, on_none}
use Rattle.audit_bits.proofs.starts_in.Goals as goal

pub returns-then-off-lt-WORD_BITS : goal.returns-then-off-lt-WORD_BITS
returns-then-off-lt-WORD_BITS c = on_up c.args.starts c.args.off

pub returns-else-off-lt-WORD_BITS : goal.returns-else-off-lt-WORD_BITS
returns-else-off-lt-WORD_BITS c = λ j l. rw (on_none j, lt-leb c.args.off j (omega arith))

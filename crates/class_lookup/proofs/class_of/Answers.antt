-- The size of the entry is the size rounded up to whole steps of its table.
use Rattle.std.proofs.Common.{◌∙◌, arith}
use borrow.Author.Tests.{lt-ltb}
use Rattle.model.specs.Classes.{max_small, class_of}
use Rattle.class_lookup.proofs.Rounding.{fine_rounded, coarse_rounded}
use Rattle.class_lookup.proofs.class_of.Goals as goal

pub returns-then-size-le-FINE_LAST : goal.returns-then-size-le-FINE_LAST
returns-then-size-le-FINE_LAST c = c.from.ensures ∙ c.fine_class.ensures ∙ fine_rounded c.args.size _ (omega arith) (omega arith) (omega arith)

pub returns-then-size-le-MAX_SMALL : goal.returns-then-size-le-MAX_SMALL
returns-then-size-le-MAX_SMALL c =
    c.from-then-size-le-MAX_SMALL.ensures ∙ c.coarse_class.ensures
    ∙ coarse_rounded c.args.size _ (omega arith) (omega arith) (omega arith) (omega arith)

pub returns : goal.returns
unfolding class_of
returns c = rw (lt-ltb max_small c.args.size (omega arith))

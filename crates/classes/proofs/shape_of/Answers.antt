-- A class of 0 is a size above the largest of the others, with pages of its own.
use mathlib.Core.Logic.{◌≢◌}
use mathlib.Core.Path.{◌≡◌, ◌∙◌}
use native.Mathlib.Omega.{arith}
use Rattle.model.specs.Classes.{class_of, kind_of, pages_for}
use Rattle.model.proofs.Classes.{class_within, class_zero, large_pages, small_pages, large_words, small_words}
use Rattle.classes.proofs.shape_of.Goals as goal

pub kind_of-kind-requires : goal.kind_of-kind-requires
kind_of-kind-requires c = rw c.class_of-c.ensures (class_within c.args.size)

pub returns-then-c-eq0 : goal.returns-then-c-eq0
unfolding kind_of
returns-then-c-eq0 c =
    let size = c.args.size in
    let e = c.class_of-c.ensures in
    let z : class_of size ≡ 0 = omega (arith, e) in
    record { kind = rw (← e) c.kind_of-kind.ensures; pages = omega (arith, class_zero size z, large_pages size z); words = rw (z, large_words (pages_for size)) (omega (arith, class_zero size z, large_pages size z)) }

pub row_of-row-requires : goal.row_of-row-requires
row_of-row-requires c = (omega arith, rw c.class_of-c.ensures (class_within c.args.size))

pub returns : goal.returns
unfolding kind_of
returns c =
    let size = c.args.size in
    let e = c.class_of-c.ensures in
    let d : class_of size ≢ 0 = λ z. c.if-c-eq0.false (omega (arith, e)) in
    record { kind = rw (← e) c.kind_of-kind.ensures; pages = rw (small_pages size d, ← e) (c.from.ensures ∙ c.row_of-row.ensures.1); words = rw (small_words (class_of size) (pages_for size) d, ← e) (c.from-2.ensures ∙ c.row_of-row.ensures.0) }

-- `element_search::free_in` meets its contract. Each way out has its law in proofs/Search.antt.
use mathlib.Core.Path.{sym, ◌∙◌, refl}
use native.Mathlib.Omega.{arith}
use Rattle.element_search.proofs.Search.{seen, elements_lie, element_inside, some_free, none_free}
use Rattle.element_search.proofs.free_in.Goals as goal

pub first_free-requires : goal.first_free-requires
first_free-requires c =
    let S = seen c.requires.0 (sym c.starts_span.ensures ∙ c.if-not-starts_span.false) c.span_at-span.ensures c.first_word-first.ensures c.layout_of-elements.ensures in
    elements_lie S _ c.starts.ensures

pub returns-in_err-k : goal.returns-in_err-k
returns-in_err-k c a o =
    let S = seen c.requires.0 (sym c.starts_span.ensures ∙ c.if-not-starts_span.false) c.span_at-span.ensures c.first_word-first.ensures c.layout_of-elements.ensures in
    rw c.from_residual.ensures (none_free S (sym c.in_err-k.was ∙ c.first_free.ensures) a o _)

pub overflow_mul-result : goal.overflow_mul-result
overflow_mul-result c =
    let S = seen c.requires.0 (sym c.starts_span.ensures ∙ c.if-not-starts_span.false) c.span_at-span.ensures c.first_word-first.ensures c.layout_of-elements.ensures in
    omega (arith, element_inside S (sym c.in_ok-k.was ∙ c.first_free.ensures))

pub overflow_add-result : goal.overflow_add-result
overflow_add-result c =
    let S = seen c.requires.0 (sym c.starts_span.ensures ∙ c.if-not-starts_span.false) c.span_at-span.ensures c.first_word-first.ensures c.layout_of-elements.ensures in
    omega (arith, element_inside S (sym c.in_ok-k.was ∙ c.first_free.ensures))

pub returns : goal.returns
returns c a o =
    let S = seen c.requires.0 (sym c.starts_span.ensures ∙ c.if-not-starts_span.false) c.span_at-span.ensures c.first_word-first.ensures c.layout_of-elements.ensures in
    some_free S (sym c.in_ok-k.was ∙ c.first_free.ensures) a o _ c.if-flagged-kind.false (record { 0 = _ }) refl

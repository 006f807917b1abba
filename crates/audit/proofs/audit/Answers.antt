-- Each part may rely on those before it; the first that says no refutes the audit, and the last decides. A place is named for the part that was
-- asked, a fact for the part that said yes.
use Rattle.model.proofs.Answers.{yes, no}
use Rattle.model.proofs.Lent.{sized_mapped}
use Rattle.audit.proofs.Joined.{refused, decided, filled, told, joined, paged, ruled}
use Rattle.audit.proofs.audit.Goals as goal

pub returns-then-not-states_ok : goal.returns-then-not-states_ok
returns-then-not-states_ok c = refused _ c.requires (λ F. no c.states_ok.result c.states_ok.ensures c.if-not-states_ok.true F.states)

pub returns-then-not-pages_ok : goal.returns-then-not-pages_ok
returns-then-not-pages_ok c = refused _ c.requires (λ F. no c.pages_ok.result c.pages_ok.ensures c.if-not-pages_ok.true (paged _ F))

pub bits_ok-requires : goal.bits_ok-requires
bits_ok-requires c =
    let states = yes c.states_ok.result c.states_ok.ensures c.if-not-states_ok.false in
    let pages = yes c.pages_ok.result c.pages_ok.ensures c.if-not-pages_ok.false in
    (sized_mapped c.requires pages.spans, record { legal = states.phase; swept = pages.swept })

pub returns-then-not-bits_ok : goal.returns-then-not-bits_ok
returns-then-not-bits_ok c = refused _ c.requires (λ F. no c.bits_ok.result c.bits_ok.ensures c.if-not-bits_ok.true (ruled _ F))

pub invariant_of-kept-clause-mapped : goal.invariant_of-kept-clause-mapped
invariant_of-kept-clause-mapped c = sized_mapped c.requires (yes c.pages_ok.result c.pages_ok.ensures c.if-not-pages_ok.false).spans

pub invariant_of-kept-clause-told : goal.invariant_of-kept-clause-told
invariant_of-kept-clause-told c = told _ _ (yes c.pages_ok.result c.pages_ok.ensures c.if-not-pages_ok.false).swept

pub roots_ok-requires : goal.roots_ok-requires
roots_ok-requires c = (c.requires.roots, yes c.states_ok.result c.states_ok.ensures c.if-not-states_ok.false)

pub returns-then-not-roots_ok : goal.returns-then-not-roots_ok
returns-then-not-roots_ok c = refused _ c.requires (λ F. no c.roots_ok.result c.roots_ok.ensures c.if-not-roots_ok.true F.references.root)

pub invariant_of-words : goal.invariant_of-words
invariant_of-words c =
    let pages = yes c.pages_ok.result c.pages_ok.ensures c.if-not-pages_ok.false in
    let bits = yes c.bits_ok.result c.bits_ok.ensures c.if-not-bits_ok.false in
    record { filled = filled _ c.requires pages.spans bits.rules }

pub returns : goal.returns
returns c =
    let states = yes c.states_ok.result c.states_ok.ensures c.if-not-states_ok.false in
    let pages = yes c.pages_ok.result c.pages_ok.ensures c.if-not-pages_ok.false in
    let bits = yes c.bits_ok.result c.bits_ok.ensures c.if-not-bits_ok.false in
    let roots = yes c.roots_ok.result c.roots_ok.ensures c.if-not-roots_ok.false in
    decided _ c.requires c.contents_ok.result (λ x. joined _ c.requires states pages bits roots (c.contents_ok.ensures.0 x)) (λ F. c.contents_ok.ensures.1 F.references.content)

use native.Mathlib.Omega.{arith}
use mathlib.Core.Path.{◌≡◌}
use Rattle.model.specs.Spans.{owner}
use Rattle.model.proofs.Answers.{yes, no}
use Rattle.audit_pages.proofs.Stretches.{begins, free_pages, span_pages}
use Rattle.audit_bits.proofs.Stretches.{read_fits, free_words, free_stretch, kept_stretch, stretch_kept, onward, words_facts, facts_words}
use Rattle.audit_bits.proofs.bits_ok.Goals as goal

pub returns-then-not-free_page_ok : goal.returns-then-not-free_page_ok
returns-then-not-free_page_ok c =
    let asked = c.free_page_ok in
    (λ x. absurd x, λ B. no asked.result (free_words _ (omega (arith, c.owner.ensures)) asked.result asked.ensures) c.if-not-free_page_ok.true (λ w _ _. facts_words B.rules B.phases w))

pub loop-g-preserved-else-not-free_page_ok : goal.loop-g-preserved-else-not-free_page_ok
loop-g-preserved-else-not-free_page_ok c =
    let asked = c.free_page_ok in
    let free : owner c.args.table.now c.loop-g.g ≡ 0 = omega (arith, c.owner.ensures) in
    onward c.requires.0.spans c.loop-g-test.true c.loop-g.invariant 1 (free_pages _ _ free) (free_stretch free (yes asked.result (free_words _ free asked.result asked.ensures) c.if-not-free_page_ok.false))

pub span_ok-requires : goal.span_ok-requires
span_ok-requires c =
    let F = c.requires.0.spans in
    read_fits c.span_at-span.ensures F (begins F _ c.loop-g.invariant.1 (omega (arith, c.owner.ensures)))

pub returns-then-not-span_ok : goal.returns-then-not-span_ok
returns-then-not-span_ok c =
    let F = c.requires.0.spans in
    let asked = c.span_ok in (
      λ x. absurd x,
      λ B. no asked.result asked.ensures c.if-not-span_ok.true (
          stretch_kept c.span_at-span.ensures F c.requires.1.legal (begins F _ c.loop-g.invariant.1 (omega (arith, c.owner.ensures))) (facts_words B.rules B.phases) (B.occupied _)),
    )

pub loop-g-preserved : goal.loop-g-preserved
loop-g-preserved c =
    let F = c.requires.0.spans in
    let i = begins F _ c.loop-g.invariant.1 (omega (arith, c.owner.ensures)) in
    onward F c.loop-g-test.true c.loop-g.invariant _ (span_pages c.span_at-span.ensures i)
    (kept_stretch c.span_at-span.ensures F c.requires.1.legal i (yes c.span_ok.result c.span_ok.ensures c.if-not-span_ok.false))

pub returns : goal.returns
returns c =
    let e : c.loop-g.g ≡ c.args.p = omega arith in
    (λ _. words_facts c.requires.0.spans c.requires.1 (rw e at c.loop-g.invariant.2) (rw e at c.loop-g.invariant.3), λ _. tt)

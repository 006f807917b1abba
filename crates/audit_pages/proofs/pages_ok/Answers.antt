use native.Mathlib.Omega.{arith}
use Prim.Native.Nat.{ℕ}
use mathlib.Core.Bool.{Bool, true}
use mathlib.Core.List.{List}
use mathlib.Core.Logic.{◌↔◌}
use mathlib.Core.Path.{◌≡◌}
use lib.Dec.{T}
use Rattle.model.proofs.Answers.{yes, no}
use Rattle.page_table.specs.Span.{Reads}
use Rattle.page_table.specs.declared.Span.{Span}
use Rattle.audit_pages.specs.Pass.{GoodSpan}
use Rattle.audit_pages.proofs.Pass.{span_step, whole, first_of, first_count}
use Rattle.audit_pages.proofs.Stretches.{own_span}
use Rattle.audit_pages.proofs.pages_ok.Goals as goal

-- page g starts a span that passed its test
good : {p ph : ℕ} {t : List ℕ} {g : ℕ} {r : Span} → Reads t g r → (b : Bool) → T b ↔ GoodSpan p ph t r.start.0 → b ≡ true → GoodSpan p ph t g
good R b f e = yes b (own_span R (GoodSpan _ _ _) b f) e

pub returns-then-not-span_ok : goal.returns-then-not-span_ok
returns-then-not-span_ok c =
    let asked = c.span_ok in
    (λ t. absurd t, λ F. no asked.result (own_span c.span_at-span.ensures (GoodSpan _ _ _) asked.result asked.ensures) c.if-not-span_ok.true (first_of F _ (omega (arith, c.owner-owner.ensures))))

pub loop-g-smaller : goal.loop-g-smaller
loop-g-smaller c =
    let G = good c.span_at-span.ensures c.span_ok.result c.span_ok.ensures c.if-not-span_ok.false in
    omega (arith, c.span_at-span.ensures.pages, G.inside, first_count G)

pub loop-g-preserved : goal.loop-g-preserved
loop-g-preserved c =
    span_step _ _ _ _ c.loop-g.invariant c.loop-g-test.true (omega (arith, c.owner-owner.ensures))
    (good c.span_at-span.ensures c.span_ok.result c.span_ok.ensures c.if-not-span_ok.false) _ c.span_at-span.ensures.pages

pub returns : goal.returns
returns c =
    let l = c.loop-g in
    let e : l.g ≡ c.args.p = omega (arith, l.invariant.fit) in
    (λ _. whole _ _ _ c.requires.0 (rw e at l.invariant), λ _. tt)

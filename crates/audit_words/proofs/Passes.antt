-- The pass from span to span: what has been passed, and one stretch more, a free page or a span.
use Prim.Native.Nat.{ℕ, ◌+◌, ◌<◌, ◌≤◌}
use mathlib.Core.List.{List}
use mathlib.Core.Path.{◌≡◌}
use native.Mathlib.Omega.{arith}
use lib.Dec.{T}
use Rattle.model.specs.Spans.{owner, is_scan}
use Rattle.model.specs.Facts.{IsSpan}
use Rattle.audit_pages.proofs.Stretches.{stretch, Edge, edge_first, begins, next, spans_more, free_pages, span_pages}
use Rattle.page_table.specs.Span.{Reads}
use Rattle.page_table.specs.declared.Span.{Span}
use Rattle.audit_words.specs.Contents.{Filled, SpanContents}

-- page g is the beginning of a span or of a free page, or the end; the scan spans before it have references in the pointer words of their kept elements
abbrev pub Passed : ℕ → List ℕ → List ℕ → List ℕ → ℕ → Type 0
Passed p a t b g = (g ≤ p) × Edge t g × ((s : ℕ) → s < g → IsSpan t s → T (is_scan t s) → SpanContents p a t b s)

-- a span that was read goes on, and not behind the last page
pub record Goes (p : ℕ) (t : List ℕ) (g : ℕ) (r : Span) : Type 0 where
  pub first : IsSpan t g
  pub some : 0 < r.pages
  pub inside : g + r.pages ≤ p

module _ (p : ℕ) (a t b : List ℕ) (F : Filled p a t b) where
  pub none_passed : Passed p a t b 0
  none_passed = (omega arith, edge_first F.consistent.spans, λ s m. absurd (omega arith))

  module _ (g : ℕ) (l : g < p) (P : Passed p a t b g) where
    onward : (n : ℕ) → n ≡ stretch t g → (IsSpan t g → T (is_scan t g) → SpanContents p a t b g) → Passed p a t b (g + n)
    onward n e C =
        let N = next F.consistent.spans g l P.1 in
        rw e (N.inside, N.edge, spans_more F.consistent.spans _ g P.1 P.2 C)

    pub free_passed : owner t g ≡ 0 → Passed p a t b (g + 1)
    free_passed o = onward 1 (free_pages t g o) (λ i. absurd (omega (arith, o)))

    module _ {r : Span} (R : Reads t g r) (u : 0 < owner t g) where
      pub goes : Goes p t g r
      goes =
          let N = next F.consistent.spans g l P.1 in
          let i = begins F.consistent.spans g P.1 u in
          let n = span_pages R i in
          record { first = i; some = omega (arith, N.some, n); inside = omega (arith, N.inside, n) }

      pub span_passed : (T (is_scan t g) → SpanContents p a t b g) → Passed p a t b (g + r.pages)
      span_passed C = onward r.pages (span_pages R goes.first) (λ i. C)

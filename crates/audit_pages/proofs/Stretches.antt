-- The way over a page table that is as it should be: from a free page or a span to the next.
use Prim.Native.Nat.{ℕ, ◌+◌, ◌-◌, ◌<◌, ◌≤◌}
use mathlib.Core.Bool.{Bool, true, false, cond}
use mathlib.Core.List.{List}
use mathlib.Core.Logic.{◌≢◌, ◌↔◌}
use mathlib.Core.Path.{◌≡◌, refl}
use native.Mathlib.Omega.{arith}
use lib.Dec.{T, eqb, ltb}
use borrow.Author.Tests.{ltb-true, ltb-false, eqb-true, eqb-false, ne_eqb}
use Rattle.model.specs.Spans.{owner, page_count, is_free}
use Rattle.model.specs.Facts.{Spans, IsSpan}
use Rattle.model.proofs.Spans.{fits}
use Rattle.page_table.specs.Span.{Reads}
use Rattle.page_table.specs.declared.Span.{Span}

-- a span that was read, by the page that it names as its first
pub reads_own : {t : List ℕ} {s : ℕ} {r : Span} → Reads t s r → Reads t r.start.0 r
reads_own R = record {
  start = refl;
  pages = rw R.start R.pages;
  flagged = rw R.start R.flagged;
  kind = rw R.start R.kind;
  class = rw R.start R.class;
  scan = rw R.start R.scan;
  unswept = rw R.start R.unswept;
  narrow = R.narrow;
}

-- .. and what a test says of that page it says of the one that was read
pub own_span : {t : List ℕ} {s : ℕ} {r : Span} → Reads t s r → (Q : ℕ → Type 0) (b : Bool) → T b ↔ Q r.start.0 → T b ↔ Q s
own_span R Q b f = rw R.start at f

-- the pages of the span at page g; a free page alone
abbrev pub stretch : List ℕ → ℕ → ℕ
stretch t g = cond (is_free t g) 1 (page_count t g)

-- the pages of a stretch: of a free page, of a span that was read
pub free_pages : (t : List ℕ) (g : ℕ) → owner t g ≡ 0 → 1 ≡ stretch t g
free_pages t g e = rw e

pub span_pages : {t : List ℕ} {g : ℕ} {r : Span} → Reads t g r → IsSpan t g → r.pages ≡ stretch t g
span_pages {t} {g} R i = rw (ne_eqb (owner t g) 0 (omega arith)) R.pages

-- no span lies on both sides of the beginning of page g
abbrev pub Edge : List ℕ → ℕ → Type 0
Edge t g = (h : ℕ) → g ≤ h → 0 < owner t h → g ≤ owner t h - 1

-- the next such page
pub record NextStretch (P : ℕ) (t : List ℕ) (g : ℕ) : Type 0 where
  pub edge : Edge t (g + stretch t g)
  pub inside : g + stretch t g ≤ P
  pub some : 0 < stretch t g

module _ {P : ℕ} {t : List ℕ} (F : Spans P t) where
  pub edge_first : Edge t 0
  edge_first h a u = omega arith

  -- there a page that is not free is the first of a span
  pub begins : (g : ℕ) → Edge t g → 0 < owner t g → IsSpan t g
  begins g e u = omega (arith, e g (omega arith) u, (F.whose g u).1)

  pub next : (g : ℕ) → g < P → Edge t g → NextStretch P t g
  next g m e = go (eqb (owner t g) 0) refl
    where
      go : (c : Bool) → eqb (owner t g) 0 ≡ c → NextStretch P t g
      go true p = record { edge = edge; inside = rw p (omega (arith, m)); some = rw p (omega arith) }
        where
          edge : Edge t (g + stretch t g)
          edge h a u =
              let l : g + 1 ≤ h = rw p at a in
              let f = F.whose h u in
              let d : owner t h - 1 ≢ g = λ z. absurd (omega (arith, eqb-true (owner t g) 0 p, rw z at f.0)) in
              rw p (omega (arith, e h (omega arith) u))
      go false p = record { edge = edge; inside = rw p (F.inside g i); some = rw p (fits F g i).pages }
        where
          i : IsSpan t g
          i = begins g e (omega (arith, eqb-false (owner t g) 0 p))

          edge : Edge t (g + stretch t g)
          edge h a u = rw p (late (ltb (owner t h - 1) (g + page_count t g)) refl)
            where
              l : g + page_count t g ≤ h
              l = rw p at a

              late : (c : Bool) → ltb (owner t h - 1) (g + page_count t g) ≡ c → g + page_count t g ≤ owner t h - 1
              late true q =
                  let f = F.whose h u in
                  let m = ltb-true (owner t h - 1) (g + page_count t g) q in
                  let z : owner t h - 1 ≡ g = omega (arith, F.body g (owner t h - 1) i (e h (omega (arith, l, (fits F g i).pages)) u) m) in
                  absurd (omega (arith, l, rw z at f.2))
              late false q = ltb-false (owner t h - 1) (g + page_count t g) q

  -- what holds of each span below page g, and of one that starts there, holds of those below the next stretch
  pub spans_more : (Q : ℕ → Type 0) (g : ℕ) → Edge t g → ((s : ℕ) → s < g → IsSpan t s → Q s) → (IsSpan t g → Q g) → (s : ℕ) → s < g + stretch t g → IsSpan t s → Q s
  spans_more Q g e A U s l i = go (ltb s g) refl (ltb g s) refl
    where
      inner : g < s → (c : Bool) → eqb (owner t g) 0 ≡ c → s < g + cond c 1 (page_count t g) → ⊥
      inner m true p k = omega arith
      inner m false p k = omega (arith, F.body g s (begins g e (omega (arith, eqb-false (owner t g) 0 p))) (omega arith) k)

      go : (c : Bool) → ltb s g ≡ c → (d : Bool) → ltb g s ≡ d → Q s
      go true p d q = A s (ltb-true s g p) i
      go false p true q = absurd (inner (ltb-true g s q) (eqb (owner t g) 0) refl l)
      go false p false q =
          let z : g ≡ s = omega (arith, ltb-false s g p, ltb-false g s q) in
          rw z at U i

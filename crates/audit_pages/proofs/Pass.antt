-- The page table. `Upto` is what is known where the pass has come to page g; a span more keeps it, and at the end it is the whole table.
use Prim.Native.Nat.{ℕ, ◌+◌, ◌-◌, ◌<◌, ◌≤◌}
use mathlib.Core.Bool.{Bool, true, false}
use mathlib.Core.List.{List}
use mathlib.Core.Logic.{◌≢◌}
use mathlib.Core.Path.{◌≡◌, refl}
use native.Mathlib.Omega.{arith}
use lib.Dec.{eqb, ltb}
use lib.ListN.{get_or-eq_default}
use borrow.Author.Tests.{ltb-true, ltb-false, eqb-true, eqb-false}
use Rattle.model.specs.Spans.{owner, page_count, kind_entry}
use Rattle.model.specs.Facts.{IsSpan}
use Rattle.model.specs.Lent.{PageTable}
use Rattle.model.proofs.Spans.{entry_fits}
use Rattle.audit_pages.specs.Pass.{GoodPages, Further, Body, GoodSpan}

-- a span has pages
pub first_count : {p ph : ℕ} {t : List ℕ} {s : ℕ} → GoodSpan p ph t s → 0 < page_count t s
first_count {p} {ph} {t} {s} f = (entry_fits (kind_entry t s) (page_count t s) f.entry).pages

-- the whole table gives what is asked of each span
pub first_of : {p ph : ℕ} {t : List ℕ} → GoodPages p ph t → (s : ℕ) → IsSpan t s → GoodSpan p ph t s
first_of {p} {ph} {t} F s e = record { entry = F.spans.entry s e; inside = F.spans.inside s e; body = body; swept = λ d. F.swept d s e }
  where
    body : Body t s
    body g a b =
        let o = F.spans.body s g e (omega arith) b in
        record { owned = o; bare = F.spans.rest g (omega arith) }

-- the pass has come to page g: the pages below it are as they should be, and no span goes on there
pub record Upto (p ph : ℕ) (t : List ℕ) (g : ℕ) : Type 0 where
  pub fit : g ≤ p
  pub first : (s : ℕ) → s < g → IsSpan t s → GoodSpan p ph t s × (s + page_count t s ≤ g)
  pub rest : (k : ℕ) → k < g → owner t k ≢ k + 1 → (page_count t k ≡ 0) × (kind_entry t k ≡ 0)
  pub whose : (k : ℕ) → k < g → 0 < owner t k → IsSpan t (owner t k - 1) × (owner t k - 1 ≤ k) × (k < owner t k - 1 + page_count t (owner t k - 1))

module _ (p ph : ℕ) (t : List ℕ) where
  module _ (g : ℕ) (U : Upto p ph t g) (l : g < p) where
    -- a span more
    module _ (starts : owner t g ≡ g + 1) (f : GoodSpan p ph t g) (n : ℕ) (size : n ≡ page_count t g) where
      body : (k : ℕ) → k < g + n → ltb k g ≡ false → eqb k g ≡ false → Further t g k
      body k m q r = f.body k (omega (arith, ltb-false k g q, eqb-false k g r)) (omega (arith, size))

      pub span_step : Upto p ph t (g + n)
      span_step = record { fit = omega (arith, size, f.inside); first = λ s m e. first s m e (ltb s g) refl (eqb s g) refl; rest = λ k m e. rest k m e (ltb k g) refl (eqb k g) refl; whose = λ k m u. whose k m u (ltb k g) refl (eqb k g) refl }
        where
          first : (s : ℕ) → s < g + n → IsSpan t s → (b : Bool) → ltb s g ≡ b → (c : Bool) → eqb s g ≡ c → GoodSpan p ph t s × (s + page_count t s ≤ g + n)
          first s m e true q c r = let x = U.first s (ltb-true s g q) e in (x.0, omega (arith, x.1))
          first s m e false q true r = rw (eqb-true s g r) (f, omega (arith, size))
          first s m e false q false r = absurd (omega (arith, (body s m q r).owned, eqb-false s g r))

          rest : (k : ℕ) → k < g + n → owner t k ≢ k + 1 → (b : Bool) → ltb k g ≡ b → (c : Bool) → eqb k g ≡ c → (page_count t k ≡ 0) × (kind_entry t k ≡ 0)
          rest k m e true q c r = U.rest k (ltb-true k g q) e
          rest k m e false q true r = absurd (e (rw (eqb-true k g r) starts))
          rest k m e false q false r = (body k m q r).bare

          whose : (k : ℕ) → k < g + n → 0 < owner t k → (b : Bool) → ltb k g ≡ b → (c : Bool) → eqb k g ≡ c → IsSpan t (owner t k - 1) × (owner t k - 1 ≤ k) × (k < owner t k - 1 + page_count t (owner t k - 1))
          whose k m u true q c r = U.whose k (ltb-true k g q) u
          whose k m u false q true r =
              let i : k ≡ g = eqb-true k g r in
              let o : owner t g - 1 ≡ g = omega (arith, starts) in
              rw (i, o) (starts, omega arith, omega (arith, first_count f))
          whose k m u false q false r =
              let o : owner t k - 1 ≡ g = omega (arith, (body k m q r).owned) in
              rw o (starts, omega (arith, ltb-false k g q), omega (arith, size))

  -- a page past the end reads as free
  past : PageTable p t → (g : ℕ) → p ≤ g → (owner t g ≡ 0) × (page_count t g ≡ 0) × (kind_entry t g ≡ 0)
  unfolding owner page_count kind_entry
  past z g l = (get_or-eq_default t 0 (omega arith), get_or-eq_default t 0 (omega arith), get_or-eq_default t 0 (omega arith))

  -- the end
  pub whole : PageTable p t → Upto p ph t p → GoodPages p ph t
  whole z U = record {
    spans = record {
      whose = λ g u. U.whose g (used g u) u;
      body = body;
      inside = λ s e. (U.first s (spans s e) e).0.inside;
      rest = λ g d. rest g d (ltb g p) refl;
      entry = λ s e. (U.first s (spans s e) e).0.entry;
    };
    swept = λ d s e. (U.first s (spans s e) e).0.swept d;
  }
    where
      used : (g : ℕ) → 0 < owner t g → g < p
      used g u = go (ltb g p) refl
        where
          go : (b : Bool) → ltb g p ≡ b → g < p
          go true e = ltb-true g p e
          go false e = absurd (omega (arith, (past z g (ltb-false g p e)).0))

      spans : (s : ℕ) → IsSpan t s → s < p
      spans s e = used s (omega arith)

      rest : (g : ℕ) → owner t g ≢ g + 1 → (b : Bool) → ltb g p ≡ b → (page_count t g ≡ 0) × (kind_entry t g ≡ 0)
      rest g d true e = U.rest g (ltb-true g p e) d
      rest g d false e = let x = past z g (ltb-false g p e) in (x.1, x.2)

      body : (s g : ℕ) → IsSpan t s → s ≤ g → g < s + page_count t s → owner t g ≡ s + 1
      body s g e a b = go (eqb s g) refl
        where
          go : (c : Bool) → eqb s g ≡ c → owner t g ≡ s + 1
          go true q = let i = eqb-true s g q in rw (← i) e
          go false q = ((U.first s (spans s e) e).0.body g (omega (arith, eqb-false s g q)) b).owned

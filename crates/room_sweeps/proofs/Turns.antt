-- One turn of each loop: what it leaves by what the functions that it calls ensure, that the goal is not met where it found nothing, and how the loop
-- ends.
use Prim.Native.Nat.{ℕ, ◌<◌, ◌≤◌}
use mathlib.Core.Bool.{Bool, true, false, ◌&&◌, cond}
use mathlib.Core.List.{List}
use mathlib.Core.Logic.{◌≢◌}
use mathlib.Core.Path.{◌≡◌, refl, ap, sym, ◌∙◌}
use native.Mathlib.Omega.{arith}
use borrow.Author.Tests.{ne_eqb, eq-eqb, lt-ltb, le-ltb, ltb-false}
use Rattle.model.specs.Memory.{Heap, lent, unswept_flag}
use Rattle.model.specs.Spans.{kind_entry, kind_at, starts_span, is_unswept}
use Rattle.model.specs.Cycle.{swept_table, swept_bits, swept_span, nothing_left}
use Rattle.model.specs.Allocate.{is_next, best_run, is_shortest, element_free, pages_free, of_kind, any_span}
use Rattle.model.specs.Facts.{Spans, IsSpan, Audited}
use Rattle.model.proofs.Tests.{is_true}
use Rattle.model.proofs.Bounded.{first_props}
use Rattle.model.proofs.Lent.{audited_consistent, audited_mapped}
use Rattle.model.specs.Lent.{Mapped}
use Rattle.model.proofs.Spans.{fits}
use Rattle.keeps.proofs.Swept.{span_kept}
use Rattle.keeps.proofs.Beside.{as_facts, room_here, room_lowest, kind_beside, runs_stay}
use Rattle.element_search.specs.Free.{FreeIn}
use Rattle.page_entries.specs.Unswept.{UnsweptAt}
use Rattle.page_table.specs.declared.Span.{Span}
use Rattle.page_runs.specs.Found.{FoundPage}
use Rattle.units.specs.declared.Page.{Page}
use Rattle.units.specs.declared.Word.{Word}
use Rattle.std.specs.Prelude.{Option, Some, None}
use Rattle.span_sweep.specs.Needs.{SpanRead, SweepsSpan}
use Rattle.span_sweep.specs.declared.SpanSwept.{SpanSwept}
use Rattle.span_sweep.proofs.Bounds.{span_read}
use Rattle.room_sweeps.specs.Needs.{LentAudited, FreeOnceSwept, KindTurned, PagesTurned, KindDone, PagesDone}
use Rattle.page_runs.specs.Around.{run_around}
use Rattle.room_sweeps.proofs.Around.{best_around}
use Rattle.room_sweeps.proofs.Loop.{Steady, Under, turned, ends_met, ends_none}

-- the next span is not at page s where no unswept one starts there
pub no_next : (h : Heap) (s : ℕ) → UnsweptAt h.table s None → (test : Heap → ℕ → Bool) → is_next test h s ≡ false
no_next h s X test = ap (λ y. y && test h s) X

-- where one does, it is if it passes the test
module _ (h : Heap) (s : ℕ) (x : Span) (X : UnsweptAt h.table s (Some x)) where
  one_there : (c : Bool) → (starts_span h.table s && is_unswept h.table s && c) ≡ c
  one_there c = ap (λ y. y && c) X.0

  pub next_any : is_next any_span h s ≡ true
  next_any = one_there true

  pub next_other : (kind : ℕ) → x.kind ≢ kind → is_next (of_kind kind) h s ≡ false
  next_other kind d = one_there (of_kind kind h s) ∙ ne_eqb (kind_at h.table s) kind (λ e. d (X.1.kind ∙ e))

  pub next_kind : (kind : ℕ) → x.kind ≡ kind → is_next (of_kind kind) h s ≡ true
  next_kind kind e = one_there (of_kind kind h s) ∙ eq-eqb (kind_at h.table s) kind (sym X.1.kind ∙ e)

-- the span, where one was found
module _ {p : ℕ} {t b : List ℕ} (S : LentAudited p t b) {s : ℕ} {x : Span} (X : UnsweptAt t s (Some x)) where
  found_span : IsSpan t s × (unswept_flag ≤ kind_entry t s)
  found_span = let u = as_facts t s true (is_true (is_next any_span (lent p S.0 t b S.1) s) (next_any (lent p S.0 t b S.1) s x X)) in (u.0, u.1)

  pub readable : SpanRead p t b x
  readable = span_read x (record { consistent = audited_consistent S.2; starts = found_span.0 }) X.1

  -- what is left of page table and bitmaps, once it is swept
  pub swept_mapped : {r : SpanSwept} {t' b' : List ℕ} → ((a o : List ℕ) → SweepsSpan (lent p a t b o) x.start.0 r t' b') → Mapped p t' b'
  swept_mapped W =
      let u = found_span in
      let R = rw X.1.start at (W S.0 S.1) in
      rw (R.table, R.bits) (audited_mapped (span_kept S.2 s u.0 u.1))

-- ELEMENTS. A turn that finds no span of the kind, and one that sweeps it
module _ (kind s : ℕ) (h : Heap) where
  pub no_span : is_next (of_kind kind) h s ≡ false → KindTurned kind s h None h.table h.bits
  no_span e = record { swept = record { table = rw e; bits = rw e }; free = rw e }

  once_swept : is_next (of_kind kind) h s ≡ true → (r : Option Word) → FreeIn (swept_span s h) kind s r → FreeOnceSwept kind s h r
  once_swept e (Some word) Z = (e, Z)
  once_swept e None Z = rw e Z

  pub swept_one : is_next (of_kind kind) h s ≡ true → {g : ℕ} {x : SpanSwept} {t b : List ℕ} → g ≡ s → SweepsSpan h g x t b → {r : Option Word} →
      FreeIn (lent h.pages h.arena t b h.roots) kind s r → KindTurned kind s h r t b
  swept_one e q Y₀ {r} Y =
      let W = rw q at Y₀ in
      record { swept = record { table = rw e W.table; bits = rw e W.bits }; free = once_swept e r (rw (W.table, W.bits) at Y) }

pub kind_steady : (kind : ℕ) → Steady (of_kind kind)
kind_steady kind h F s i u x j k e = rw (kind_beside F s i u x j k) at e

module _ {kind p : ℕ} {t₀ b₀ t b : List ℕ} {s : ℕ} (U : Under (element_free kind) (of_kind kind) p t₀ b₀ t b s) (l : s < p) {t' b' : List ℕ} where
  pub not_found : ((a o : List ℕ) → KindTurned kind s (lent p a t b o) None t' b') → (a o : List ℕ) → Audited (lent p a t₀ b₀ o) →
      element_free kind (lent p a t' b' o) ≡ false
  not_found K a o F₀ = rw ((K a o).swept.table, (K a o).swept.bits) (go (is_next (of_kind kind) h s) refl)
    where
      h : Heap
      h = lent p a t b o

      go : (c : Bool) → is_next (of_kind kind) h s ≡ c → element_free kind (lent p a (cond c (swept_table h s) t) (cond c (swept_bits h s) b) o) ≡ false
      go true e = let W = turned U l a o F₀ e in room_here (U.kept a o F₀) s W.span W.unswept kind (U.unmet a o F₀) ∙ rw e at (K a o).free
      go false e = U.unmet a o F₀

  pub found_one : {word : Word} → ((a o : List ℕ) → KindTurned kind s (lent p a t b o) (Some word) t' b') → (a o : List ℕ) → Audited (lent p a t₀ b₀ o) →
      KindDone kind (lent p a t₀ b₀ o) (lent p a t' b' o) (Some word)
  found_one K a o F₀ =
      let h : Heap = lent p a t b o in
      let e = (K a o).free.0 in
      let Z = (K a o).free.1 in
      let W = turned U l a o F₀ e in
      let F = U.kept a o F₀ in
      let g = room_here F s W.span W.unswept kind (U.unmet a o F₀) ∙ Z.0 in
      let q = room_lowest F s W.span W.unswept kind (U.unmet a o F₀) (is_true _ Z.0) in
      rw ((K a o).swept.table, (K a o).swept.bits, e) (record { heap = ends_met U l a o F₀ e (is_true _ g); free = (g, rw q Z.1) })

pub no_more : {kind p : ℕ} {t₀ b₀ t b : List ℕ} {s : ℕ} → Under (element_free kind) (of_kind kind) p t₀ b₀ t b s → p ≤ s →
    (a o : List ℕ) → Audited (lent p a t₀ b₀ o) → KindDone kind (lent p a t₀ b₀ o) (lent p a t b o) None
no_more U l a o F₀ = record { heap = ends_none U l a o F₀; free = U.unmet a o F₀ }

-- PAGES. A turn that finds no span, one whose span stays, and one whose pages are returned
module _ (n s : ℕ) (h : Heap) where
  pub none_swept : is_next any_span h s ≡ false → PagesTurned n s h None h.table h.bits
  none_swept e = record { swept = record { table = rw e; bits = rw e }; run = rw e }

  module _ (e : is_next any_span h s ≡ true) {g : ℕ} {x : SpanSwept} {t b : List ℕ} (q : g ≡ s) (Y : SweepsSpan h g x t b) where
    here : SweepsSpan h s x t b
    here = rw q at Y

    span : IsSpan h.table s
    span = (as_facts h.table s true (is_true _ e)).0

    pub stays_swept : Spans h.pages h.table → x.returned ≡ 0 → PagesTurned n s h None t b
    stays_swept F z = record { swept = record { table = rw e here.table; bits = rw e here.bits }; run = rw e (go (nothing_left h s) refl) }
      where
        go : (c : Bool) → nothing_left h s ≡ c → cond c (best_run h.pages (swept_table h s) n) h.pages ≡ h.pages
        go true w = absurd (omega (arith, (fits F s span).pages, rw w at here.returned))
        go false w = refl

    pub returned_swept : Audited h → 0 < n → h.pages ≤ best_run h.pages h.table n → x.returned ≢ 0 → {r : Option Page} →
        FoundPage h.pages (run_around h.pages t s n) r → PagesTurned n s h r t b
    returned_swept F some none d {r} v = record { swept = record { table = rw e here.table; bits = rw e here.bits }; run = rw e (go (nothing_left h s) refl) }
      where
        go : (c : Bool) → nothing_left h s ≡ c → FoundPage h.pages (cond c (best_run h.pages (swept_table h s) n) h.pages) r
        go true w = rw (best_around F s span w n some none) (rw here.table at v)
        go false w = absurd (d (rw w at here.returned))

pub any_steady : Steady any_span
any_steady h F s i u x j k e = tt

module _ {n p : ℕ} {t₀ b₀ t b : List ℕ} {s : ℕ} (U : Under (pages_free n) any_span p t₀ b₀ t b s) (l : s < p) {t' b' : List ℕ} where
  pub no_run : ((a o : List ℕ) → Audited (lent p a t b o) → PagesTurned n s (lent p a t b o) None t' b') → (a o : List ℕ) → Audited (lent p a t₀ b₀ o) →
      pages_free n (lent p a t' b' o) ≡ false
  no_run K a o F₀ = rw at.swept.table (go (is_next any_span h s) refl)
    where
      h : Heap
      h = lent p a t b o

      at : PagesTurned n s h None t' b'
      at = K a o (U.kept a o F₀)

      go : (c : Bool) → is_next any_span h s ≡ c → pages_free n (lent p a (cond c (swept_table h s) t) (cond c (swept_bits h s) b) o) ≡ false
      go true e = left (nothing_left h s) refl
        where
          left : (d : Bool) → nothing_left h s ≡ d → pages_free n (swept_span s h) ≡ false
          left true w = let v : best_run p (swept_table h s) n ≡ p = rw (e, w) at at.run in le-ltb (best_run p (swept_table h s) n) p (omega arith)
          left false w = let W = turned U l a o F₀ e in runs_stay (U.kept a o F₀) s W.span W.unswept n w ∙ U.unmet a o F₀
      go false e = U.unmet a o F₀

  pub found_run : {page : Page} → ((a o : List ℕ) → Audited (lent p a t b o) → PagesTurned n s (lent p a t b o) (Some page) t' b') →
      (a o : List ℕ) → Audited (lent p a t₀ b₀ o) → PagesDone n (lent p a t₀ b₀ o) (lent p a t' b' o) (Some page)
  found_run {page} K a o F₀ = go (is_next any_span h s) refl (nothing_left h s) refl
    where
      h : Heap
      h = lent p a t b o

      at : PagesTurned n s h (Some page) t' b'
      at = K a o (U.kept a o F₀)

      go : (c : Bool) → is_next any_span h s ≡ c → (d : Bool) → nothing_left h s ≡ d → PagesDone n (lent p a t₀ b₀ o) (lent p a t' b' o) (Some page)
      go true e true w =
          let v : (page.0 ≡ best_run p (swept_table h s) n) × (best_run p (swept_table h s) n < p) = rw (e, w) at at.run in
          rw (at.swept.table, at.swept.bits, e) (record { heap = ends_met U l a o F₀ e (is_true _ (lt-ltb (best_run p (swept_table h s) n) p v.1)); run = v })
      go true e false w = let v : (page.0 ≡ p) × (p < p) = rw (e, w) at at.run in absurd (omega arith)
      go false e d w = let v : (page.0 ≡ p) × (p < p) = rw e at at.run in absurd (omega arith)

pub no_more_runs : {n p : ℕ} {t₀ b₀ t b : List ℕ} {s : ℕ} → Under (pages_free n) any_span p t₀ b₀ t b s → p ≤ s →
    (a o : List ℕ) → Audited (lent p a t₀ b₀ o) → PagesDone n (lent p a t₀ b₀ o) (lent p a t b o) None
no_more_runs {n} {p} {t₀} {b₀} {t} U l a o F₀ = record {
  heap = ends_none U l a o F₀;
  run = omega (arith, ltb-false (best_run p t n) p (U.unmet a o F₀), most);
}
  where
    most : best_run p t n ≤ p
    most = unfold best_run in (first_props p (is_shortest p t n)).within

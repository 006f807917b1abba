-- What the sweep of one unswept span leaves elsewhere: the other spans have the room that they had, the unswept ones among them are those that were,
-- and where the span stays the free pages are those that were. So a search need not go back over what it has passed.
use Prim.Native.Nat.{ℕ, ◌+◌, ◌-◌, ◌*◌, ◌<◌, ◌≤◌}
use mathlib.Core.List.{List}
use mathlib.Core.Bool.{Bool, true, false, not, ◌&&◌, true≢false}
use mathlib.Core.Logic.{◌≢◌}
use mathlib.Core.Path.{◌≡◌, refl, ap, sym, ◌∙◌, fun_ext}
use native.Mathlib.Omega.{arith}
use lib.Dec.{T, eqb, ltb}
use borrow.Author.Tests.{ne_eqb, eqb-true, eqb-false, ltb-true, ltb-false, lt-ltb}
use Rattle.model.specs.Memory.{Heap, page_words, unswept_flag}
use Rattle.model.specs.Bounded.{all_below}
use Rattle.model.specs.Bitmaps.{allocated, is}
use Rattle.model.specs.Spans.{owner, page_count, kind_entry, kind_at, starts_span, is_unswept, elements, element_start}
use Rattle.model.specs.Cycle.{swept_table, swept_span, nothing_left}
use Rattle.model.specs.Allocate.{free_element, has_room, span_with_room, run_length, is_run, is_shortest, best_run, element_free, pages_free, next_unswept}
use Rattle.model.specs.Facts.{IsSpan, Audited}
use Rattle.model.proofs.Tests.{is_true, of_true, same_test}
use Rattle.model.proofs.Bounded.{within, within_true, first_props, first_is, first_cong}
use Rattle.model.proofs.Rules.{tests}
use Rattle.model.proofs.Spans.{element_word, in_span, fits}
use Rattle.model.proofs.Effects.{swept_at}
use Rattle.model.proofs.Sweeps.{next_unswept_lem}
use Rattle.keeps.proofs.SweptTable.{inside, own, outside, gone, stays, unswept_less}
use Rattle.keeps.proofs.Swept.{swept_word}

-- tables with the same free pages have the same runs of them
module _ (P n : ℕ) (t u : List ℕ) (f : (x : ℕ) → owner u x ≡ owner t x) where
  length_same : (r : ℕ) → run_length P u r ≡ run_length P t r
  unfolding run_length
  length_same r = first_cong (P - r) _ _ (λ k l. rw (f (r + k)))

  run_same : (r : ℕ) → is_run P u n r ≡ is_run P t n r
  unfolding is_run
  run_same r = rw (f r, f (r - 1), length_same r)

  shortest_same : (r : ℕ) → is_shortest P u n r ≡ is_shortest P t n r
  unfolding is_shortest
  shortest_same r = rw (run_same r, length_same r) (ap (λ x. is_run P t n r && all_below P x) (fun_ext (λ k. rw (run_same k, length_same k))))

  runs_same : best_run P u n ≡ best_run P t n
  unfolding best_run
  runs_same = first_cong P _ _ (λ r l. shortest_same r)

module _ {h : Heap} (F : Audited h) (s : ℕ) (span : IsSpan h.table s) (unswept : unswept_flag ≤ kind_entry h.table s) where
  abbrev t : List ℕ
  t = h.table

  abbrev u : List ℕ
  u = swept_table h s

  abbrev n : ℕ
  n = page_count h.table s

  abbrev g : Heap
  g = swept_span s h

  -- another span of the result lies outside the one that was swept
  apart : (r : ℕ) → r ≢ s → IsSpan (swept_table h s) r → within s (page_count h.table s) r ≡ false
  apart r d i = go (within s n r) refl (nothing_left h s) refl
    where
      go : (b : Bool) → within s n r ≡ b → (c : Bool) → nothing_left h s ≡ c → b ≡ false
      go true e true f = absurd (omega (arith, gone F s span f r e))
      go true e false f =
          let x = within_true s n r e in
          absurd (d (omega (arith, F.spans.body s r span x.0 x.1, (stays F s span f r).0)))
      go false e c f = refl

  -- the room of the span at r
  same_free : (r : ℕ) → r ≢ s → IsSpan (swept_table h s) r → free_element (swept_span s h) r ≡ free_element h r
  unfolding free_element
  same_free r d i =
      let o = outside F s span r (apart r d i) in
      rw (o.1, o.2) (first_cong (elements t r) _ _ (λ k l. ap not (same k l (sym o.0 ∙ i))))
    where
      same : (k : ℕ) → k < elements t r → IsSpan t r → is allocated g (element_start t r k) ≡ is allocated h (element_start t r k)
      same k l j =
          let w = element_start t r k in
          let e = element_word F.spans r k w j l (omega arith) (omega (arith, (fits F.spans r j).words)) in
          let b = rw e.1 at (in_span F.spans w (omega (arith, e.0))) in
          let z : within (page_words * s) (page_words * n) w ≡ false = swept_word F s span unswept r w j b.0 b.1 ∙ ne_eqb r s d in
          rw (swept_at h F.sized s (inside F s span) allocated w, z) refl

  pub room_beside : (kind r : ℕ) → r ≢ s → T (has_room (swept_span s h) kind r) → T (has_room h kind r)
  room_beside kind r d x =
      let y = simp tests at x in
      let i = y.0.0 in
      let o = outside F s span r (apart r d i) in
      let free : free_element h r < elements t r = rw (same_free r d i, o.2) at y.1 in
      simp tests ((sym o.0 ∙ i, sym o.2 ∙ y.0.1), free)

  -- where no swept span of the kind had room, only this one can have some
  pub room_here : (kind : ℕ) → element_free kind h ≡ false → element_free kind (swept_span s h) ≡ has_room (swept_span s h) kind s
  unfolding span_with_room
  room_here kind e = same_test (element_free kind g) (has_room g kind s) (λ x. there x (eqb (span_with_room g kind) s) refl) here
    where
      none : (r : ℕ) → r < h.pages → T (has_room h kind r) → ⊥
      none r l x = true≢false (sym (of_true _ x) ∙ (first_props h.pages (has_room h kind)).before r (omega (arith, ltb-false (span_with_room h kind) h.pages e)))

      there : T (element_free kind g) → (b : Bool) → eqb (span_with_room g kind) s ≡ b → T (has_room g kind s)
      there x b p =
          let l = ltb-true (span_with_room g kind) h.pages (of_true _ x) in
          let y = is_true _ ((first_props h.pages (has_room g kind)).holds l) in
          go b p l y
        where
          go : (b : Bool) → eqb (span_with_room g kind) s ≡ b → span_with_room g kind < h.pages → T (has_room g kind (span_with_room g kind)) → T (has_room g kind s)
          go true p l y = rw (eqb-true (span_with_room g kind) s p) at y
          go false p l y = absurd (none (span_with_room g kind) l (room_beside kind (span_with_room g kind) (eqb-false (span_with_room g kind) s p) y))

      here : T (has_room g kind s) → T (element_free kind g)
      here x = is_true _ (lt-ltb (span_with_room g kind) h.pages (go (ltb (span_with_room g kind) h.pages) refl))
        where
          go : (b : Bool) → ltb (span_with_room g kind) h.pages ≡ b → span_with_room g kind < h.pages
          go true p = ltb-true (span_with_room g kind) h.pages p
          go false p = absurd (true≢false (sym (of_true _ x) ∙ (first_props h.pages (has_room g kind)).before s
              (omega (arith, ltb-false (span_with_room g kind) h.pages p, inside F s span, fits F.spans s span))))

  -- .. and then it is the one with the lowest start page
  pub room_lowest : (kind : ℕ) → element_free kind h ≡ false → T (has_room (swept_span s h) kind s) → span_with_room (swept_span s h) kind ≡ s
  unfolding span_with_room
  room_lowest kind e x = first_is h.pages (has_room g kind) s (record {
    within = omega (arith, inside F s span);
    before = λ k l. no (has_room g kind k) (λ y. true≢false (sym (of_true _ (room_beside kind k (omega arith) y))
        ∙ (first_props h.pages (has_room h kind)).before k (omega (arith, ltb-false (span_with_room h kind) h.pages e, inside F s span))));
    holds = λ l. of_true _ x;
  })
    where
      no : (b : Bool) → (T b → ⊥) → b ≡ false
      no true f = absurd (f tt)
      no false f = refl

  -- a span of another kind has none for it
  pub room_other : (kind : ℕ) → kind_at h.table s ≢ kind → T (has_room (swept_span s h) kind s) → ⊥
  room_other kind d x = let y = simp tests at x in go (nothing_left h s) refl y.0.0 y.0.1
    where
      go : (b : Bool) → nothing_left h s ≡ b → IsSpan u s → kind_entry u s ≡ kind → ⊥
      go true e i k = omega (arith, gone F s span e s (own F s span))
      go false e i k = d (sym (rw (borrow.Author.Tests.eq-eqb s s refl) at (stays F s span e s).2) ∙ k)

  -- the kinds of the spans that are still unswept
  pub kind_beside : (x : ℕ) → IsSpan (swept_table h s) x → unswept_flag ≤ kind_entry (swept_table h s) x → kind_at (swept_table h s) x ≡ kind_at h.table x
  kind_beside x i k = rw (outside F s span x (apart x (unswept_less F s span x i k).2 i)).2

  -- where the span stays, the runs of free pages are those that were
  pub runs_stay : (m : ℕ) → nothing_left h s ≡ false → pages_free m (swept_span s h) ≡ pages_free m h
  runs_stay m e = rw (runs_same h.pages m t u (λ x. (stays F s span e x).0))

-- an unswept span that passes a test, as facts and back
pub as_facts : (t : List ℕ) (x : ℕ) (c : Bool) → T (starts_span t x && is_unswept t x && c) → IsSpan t x × (unswept_flag ≤ kind_entry t x) × T c
as_facts t x c z = let w = simp tests at z in (w.0.0, w.0.1, w.1)

pub as_test : (t : List ℕ) (x : ℕ) (c : Bool) → IsSpan t x → unswept_flag ≤ kind_entry t x → T c → T (starts_span t x && is_unswept t x && c)
as_test t x c i k d = simp tests ((i, k), d)

-- the span that is swept next, where it is the lowest that passes a test: those that pass it afterwards lie above
pub next_above : {h : Heap} → Audited h → (test : Heap → ℕ → Bool) → let s = next_unswept test h in s < h.pages →
    ((x : ℕ) → IsSpan (swept_table h s) x → unswept_flag ≤ kind_entry (swept_table h s) x → T (test (swept_span s h) x) → T (test h x)) →
    s < next_unswept test (swept_span s h)
unfolding next_unswept
next_above {h} F test l f = go (ltb s y) refl (ltb y h.pages) refl
  where
    s : ℕ
    s = next_unswept test h

    y : ℕ
    y = next_unswept test (swept_span s h)

    holds : ℕ → Bool
    holds x = starts_span h.table x && is_unswept h.table x && test h x

    span : IsSpan h.table s
    span = (next_unswept_lem test h l).0

    was : T (starts_span (swept_table h s) y && is_unswept (swept_table h s) y && test (swept_span s h) y) → T (holds y) × (y ≢ s)
    was x =
        let z = as_facts (swept_table h s) y (test (swept_span s h) y) x in
        let w = unswept_less F s span y z.0 z.1 in
        (as_test h.table y (test h y) w.0 w.1 (f y z.0 z.1 z.2), w.2)

    go : (a : Bool) → ltb s y ≡ a → (b : Bool) → ltb y h.pages ≡ b → s < y
    go true e b p = ltb-true s y e
    go false e true p =
        let w = was (is_true _ ((first_props h.pages (λ x. starts_span (swept_table h s) x && is_unswept (swept_table h s) x && test (swept_span s h) x)).holds (ltb-true y h.pages p))) in
        absurd (true≢false (sym (of_true _ w.0) ∙ (first_props h.pages holds).before y (omega (arith, ltb-false s y e, w.1))))
    go false e false p = absurd (omega (arith, ltb-false s y e, ltb-false y h.pages p))

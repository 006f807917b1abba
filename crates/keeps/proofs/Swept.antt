-- The unswept span at page s swept, any one: what the bits are afterwards, what of the span is left, and that it keeps the audit. So do sweeps one
-- after the other.
use Prim.Native.Nat.{ℕ, ◌+◌, ◌-◌, ◌*◌, ◌/◌, ◌%◌, ◌<◌, ◌≤◌}
use mathlib.Core.List.{List}
use mathlib.Core.Bool.{Bool, true, false, not, cond, ◌&&◌, and-false, and-true, true≢false}
use mathlib.Core.Logic.{◌⊎◌, inl, inr, ◌≢◌}
use mathlib.Core.Path.{◌≡◌, refl, ap, sym, ◌∙◌}
use native.Mathlib.Omega.{arith}
use lib.ListN.{get_or}
use lib.Dec.{T, eqb}
use borrow.Author.Tests.{lt-leb, le-leb, eq-eqb, eqb-true, eqb-false, not-false}
use Rattle.model.specs.Memory.{Heap, phase, page_words, unswept_flag, sweep}
use Rattle.model.specs.Bitmaps.{Part, allocated, marked, gray, pointer, is}
use Rattle.model.specs.Spans.{owner, page_count, kind_entry, is_free, element_words, elements, element_start, element_number, span_of, element_of, kept}
use Rattle.model.specs.Cycle.{swept_bits, swept_table, swept_span, nothing_left}
use Rattle.model.specs.Allocate.{last_of}
use Rattle.model.specs.Room.{Sweeps, none, more}
use Rattle.model.proofs.Tests.{of_true, is_true, clash, and_iff, same_test}
use Rattle.model.proofs.Bounded.{within, within_yes, within_true, all_at, some_fails}
use Rattle.model.proofs.Bitmaps.{same_part}
use Rattle.model.specs.Facts.{IsSpan, Element, Audited, Bits, Phases, References, Reference, Occupied, bit, unswept_at, kept_at}
use Rattle.model.proofs.Spans.{start_in, start_same, span_of_lem, in_span, at_home, spans_apart, element_word, round, whole, fits}
use Rattle.model.proofs.Effects.{swept_at, swept_length}
use Rattle.model.proofs.Named.{kept_allocated_lem, refers_over}
use Rattle.keeps.proofs.SweptTable.{within_no, scaled, inside, own, outside, gone, stays, same_out, same_left, page_out, swept_spans, table_length}
use Rattle.keeps.proofs.Tables.{Like, like, like_scan, like_element, like_in, like_first}

module _ {h : Heap} (F : Audited h) (s : ℕ) (span : IsSpan h.table s) (unswept : unswept_flag ≤ kind_entry h.table s) where
  abbrev P : ℕ
  P = h.pages

  abbrev t : List ℕ
  t = h.table

  abbrev u : List ℕ
  u = swept_table h s

  abbrev b' : List ℕ
  b' = swept_bits h s

  abbrev n : ℕ
  n = page_count h.table s

  -- the words that are swept
  abbrev q : ℕ → Bool
  q = within (page_words * s) (page_words * page_count h.table s)

  abbrev m : ℕ → Bool
  m = is marked h

  abbrev a : ℕ → Bool
  a = is allocated h

  at : (r : Part) (v : ℕ) → let d = within (page_words * s) (page_words * page_count h.table s) v in bit h.pages r (swept_bits h s) v ≡
      cond (same_part r marked && d) false (cond (same_part r allocated && d) (is marked h v)
      (cond (same_part r pointer && d) (is pointer h v && is marked h (start_in h.table s v)) (is r h v)))
  at = swept_at h F.sized s (inside F s span)

  -- what is left: a marked element
  left : (w : ℕ) → within (page_words * s) (page_words * page_count h.table s) w ≡ true → T (m w) → nothing_left h s ≡ false
  unfolding nothing_left
  left w e x = go (nothing_left h s) refl
    where
      go : (b : Bool) → nothing_left h s ≡ b → b ≡ false
      go true p =
          let f = within_true (page_words * s) (page_words * n) w e in
          let E = F.bits.element w (F.bits.marks w x) in
          let z = (at_home F.spans s w span (omega arith) (omega arith)).1 in
          let i : element_start t s (element_number t s w) ≡ w = rw z at E.first in
          let k : element_number t s w < elements t s = rw z at E.lies.number in
          absurd (clash (m w) (of_true _ x) (not_true' (rw i at (all_at (elements t s) (λ k. not (is marked h (element_start t s k))) p (element_number t s w) k))))
        where
          not_true' : not (m w) ≡ true → m w ≡ false
          not_true' = borrow.Author.Tests.not-true (m w)
      go false p = refl

  pub stay_like : (w : ℕ) → T (cond (within (page_words * s) (page_words * page_count h.table s) w) (is marked h w) (is allocated h w)) → Like h.table (swept_table h s) w
  stay_like w x = go (q w) refl x
    where
      go : (b : Bool) → q w ≡ b → T (cond b (m w) (a w)) → Like t u w
      go true e x = let z = left w e x in like t u w (same_left F s span z (w / page_words)) (same_left F s span z (span_of t w))
      go false e x = let z = sym (scaled s n w) ∙ e in
          like t u w (same_out F s span (w / page_words) z) (same_out F s span (span_of t w) (page_out F s span (w / page_words) (F.bits.element w x).lies.used z))

  -- the pointer bits of an element that is left
  pub stay_bits : (w : ℕ) → T (cond (within (page_words * s) (page_words * page_count h.table s) w) (is marked h w) (is allocated h w)) →
      (f : ℕ) → f < element_words h.table (span_of h.table w) →
      bit h.pages pointer (swept_bits h s) (w + f) ≡ is pointer h (w + f)
  stay_bits w x f l = rw (at pointer (w + f)) (go (q w) refl x)
    where
      go : (b : Bool) → q w ≡ b → T (cond b (m w) (a w)) → cond (q (w + f)) (is pointer h (w + f) && m (start_in t s (w + f))) (is pointer h (w + f)) ≡ is pointer h (w + f)
      go true e x =
          let y = within_true (page_words * s) (page_words * n) w e in
          let E = F.bits.element w (F.bits.marks w x) in
          let z = (at_home F.spans s w span (omega arith) (omega arith)).1 in
          let fit = rw z at (whole F.spans w E).0 in
          let l' = rw z at l in
          rw (
            within_yes (page_words * s) (page_words * n) (w + f) (omega arith) (omega arith),
            start_same t s w (w + f) (rw z at E.first) (omega arith) (omega arith),
            of_true (m w) x,
          ) (and-true _)
      go false e x =
          let E = F.bits.element w x in
          let z = page_out F s span (w / page_words) E.lies.used (sym (scaled s n w) ∙ e) in
          rw (within_no (page_words * s) (page_words * n) (w + f)
          (far E (spans_apart F.spans (span_of t w) s (span_of_lem F.spans w E.lies.used) span (λ p. true≢false (sym (rw p (own F s span)) ∙ z)))))
        where
          far : Element t w → ((span_of t w + page_count t (span_of t w) ≤ s) ⊎ (s + page_count t s ≤ span_of t w)) → (w + f < page_words * s) ⊎ (page_words * s + page_words * n ≤ w + f)
          far E (inl y) = inl (omega (arith, whole F.spans w E))
          far E (inr y) = inr (omega (arith, in_span F.spans w E.lies.used))

  -- a word of the span at r is swept if that is the span
  pub swept_word : (r x : ℕ) → IsSpan t r → page_words * r ≤ x → x < page_words * (r + page_count t r) → q x ≡ eqb r s
  swept_word r x e v w = go (eqb r s) refl
    where
      far : ((r + page_count t r ≤ s) ⊎ (s + page_count t s ≤ r)) → (x < page_words * s) ⊎ (page_words * s + page_words * n ≤ x)
      far (inl y) = inl (omega arith)
      far (inr y) = inr (omega arith)

      go : (c : Bool) → eqb r s ≡ c → q x ≡ c
      go true p = let z = eqb-true r s p in within_yes (page_words * s) (page_words * n) x (omega arith) (omega (arith, rw z at w))
      go false p = within_no (page_words * s) (page_words * n) x (far (spans_apart F.spans r s e span (eqb-false r s p)))

  q_home : (x : ℕ) → 0 < owner t (x / page_words) → q x ≡ eqb (span_of t x) s
  q_home x v = let i = in_span F.spans x v in swept_word (span_of t x) x (span_of_lem F.spans x v) i.0 i.1

  -- words between an element's first and v are swept if v is
  q_between : (v x : ℕ) → 0 < owner t (v / page_words) → element_of t v ≤ x → x ≤ v → q x ≡ q v
  q_between v x y c d = let i = in_span F.spans v y in
      swept_word (span_of t v) x (span_of_lem F.spans v y) (omega (arith, round F.spans v y)) (omega arith) ∙ sym (q_home v y)

  was_a : (v : ℕ) → T (cond (q v) (m v) (a v)) → T (a v)
  was_a v = go (q v)
    where
      go : (b : Bool) → T (cond b (m v) (a v)) → T (a v)
      go true x = F.bits.marks v x
      go false x = x

  -- a pointer bit that is left: it was there, its element is left, and the table says the same of it
  was_p : (v : ℕ) → T (bit P pointer b' v) → T (is pointer h v) × T (cond (q (element_of t v)) (m (element_of t v)) (a (element_of t v))) × Like t u v
  was_p v x = go (q v) refl (rw (at pointer v) at x)
    where
      go : (b : Bool) → q v ≡ b → T (cond b (is pointer h v && m (start_in t s v)) (is pointer h v)) →
          T (is pointer h v) × T (cond (q (element_of t v)) (m (element_of t v)) (a (element_of t v))) × Like t u v
      go true e x =
          let xy = (and_iff (is pointer h v) (m (start_in t s v))).0 x in
          let f = F.bits.pointers v xy.0 in
          let z = eqb-true (span_of t v) s (sym (q_home v f.0.used) ∙ e) in
          let o : T (m (element_of t v)) = rw z xy.1 in
          let y = q_between v (element_of t v) f.0.used (omega arith) (round F.spans v f.0.used).1 ∙ e in
          let l = left (element_of t v) y o in
          (xy.0, rw y o, like t u v (same_left F s span l (v / page_words)) (same_left F s span l (span_of t v)))
      go false e x =
          let f = F.bits.pointers v x in
          let y = q_between v (element_of t v) f.0.used (omega arith) (round F.spans v f.0.used).1 ∙ e in
          let z = sym (scaled s n v) ∙ e in
          (x, rw y f.2, like t u v (same_out F s span (v / page_words) z) (same_out F s span (span_of t v) (page_out F s span (v / page_words) f.0.used z)))

  swept_bits_lem : phase h ≡ sweep → Bits P u b'
  swept_bits_lem two = record {
    element = λ v x. let y = rw (at allocated v) at x in like_first (stay_like v y) (F.bits.element v (was_a v y));
    marks = λ v x. rw (at allocated v) (marks v (q v) (rw (at marked v) at x));
    grays = λ v x. absurd (none v (rw (at gray v) at x));
    pointers = λ v x. let f = was_p v x in let g = F.bits.pointers v f.0 in
        (like_in f.2 g.0, rw (like_scan f.2) g.1, rw (like_element f.2, at allocated (element_of t v)) f.1);
    head = λ v x c. let y = rw (at allocated v) at x in rw (head_bit v y) (F.bits.head v (was_a v y) (rw (like_scan (stay_like v y)) at c));
    unbroken = λ v x l. let f = was_p v x in rw (at pointer (v - 1)) (runs v f.0 f.1 (rw (like_element f.2) at l));
  }
    where
      zero' : (v : ℕ) → v + 0 ≡ v
      zero' v = omega arith

      head_bit : (v : ℕ) → T (cond (q v) (m v) (a v)) → bit P pointer b' v ≡ is pointer h v
      head_bit v y = rw (zero' v) at (stay_bits v y 0 (fits F.spans (span_of t v) (span_of_lem F.spans v (F.bits.element v (was_a v y)).lies.used)).words)

      runs : (v : ℕ) → T (is pointer h v) → T (cond (q (element_of t v)) (m (element_of t v)) (a (element_of t v))) → element_of t v ≢ v →
          T (cond (q (v - 1)) (is pointer h (v - 1) && m (start_in t s (v - 1))) (is pointer h (v - 1)))
      runs v p o l = go (q v) refl (rw (q_between v (element_of t v) y (omega arith) (round F.spans v y).1) at o)
        where
          y : 0 < owner t (v / page_words)
          y = (F.bits.pointers v p).0.used

          go : (b : Bool) → q v ≡ b → T (cond b (m (element_of t v)) (a (element_of t v))) →
              T (cond (q (v - 1)) (is pointer h (v - 1) && m (start_in t s (v - 1))) (is pointer h (v - 1)))
          go true e o =
              let z = eqb-true (span_of t v) s (sym (q_home v y) ∙ e) in
              let E = F.bits.element (element_of t v) (F.bits.pointers v p).2 in
              let c : span_of t (element_of t v) ≡ s = eqb-true _ _
              (sym (q_home (element_of t v) E.lies.used) ∙ q_between v (element_of t v) y (omega arith) (round F.spans v y).1 ∙ e) in
              let w : start_in t s (v - 1) ≡ element_of t v =
              start_same t s (element_of t v) (v - 1) (rw c at E.first) (omega (arith, round F.spans v y))
              (omega (arith, round F.spans v y, ap (element_words t) z)) in
              rw (q_between v (v - 1) y (omega (arith, round F.spans v y)) (omega arith), e, w)
              ((and_iff (is pointer h (v - 1)) (m (element_of t v))).1 (F.bits.unbroken v p l, o))
          go false e o = rw (q_between v (v - 1) y (omega (arith, round F.spans v y)) (omega arith), e) (F.bits.unbroken v p l)

      marks : (v : ℕ) (b : Bool) → T (cond b false (m v)) → T (cond b (m v) (a v))
      marks v true x = absurd x
      marks v false x = F.bits.marks v x

      none : (v : ℕ) → T (is gray h v) → ⊥
      none v x = true≢false (sym (of_true _ x) ∙ F.phases.plain (λ y. absurd (omega arith)) v)

  -- a word is unswept afterwards if it was and its span is another
  pub flag_is : (w : ℕ) → 0 < owner h.table (w / page_words) → 0 < owner (swept_table h s) (w / page_words) →
      unswept_at (swept_table h s) w ≡ cond (within (page_words * s) (page_words * page_count h.table s) w) false (unswept_at h.table w)
  flag_is w x y = rw (scaled s n w) (go (within s n (w / page_words)) refl (nothing_left h s) refl)
    where
      go : (b : Bool) → within s n (w / page_words) ≡ b → (c : Bool) → nothing_left h s ≡ c → unswept_at u w ≡ cond b false (unswept_at t w)
      go true e true f = absurd (omega (arith, gone F s span f (w / page_words) e))
      go true e false f =
          let r = within_true s n (w / page_words) e in
          let z : owner t (w / page_words) - 1 ≡ s = omega (arith, F.spans.body s (w / page_words) span r.0 r.1) in
          rw ((stays F s span f (w / page_words)).0, z, (stays F s span f s).2, eq-eqb s s refl) (lt-leb unswept_flag (kind_entry t s % unswept_flag) (omega arith))
      go false e c f = rw ((outside F s span (w / page_words) e).0, (outside F s span (span_of t w) (page_out F s span (w / page_words) x e)).2)

  -- the same of every word, also on free pages
  pub late_swept : (w : ℕ) → (not (is_free (swept_table h s) (w / page_words)) && unswept_at (swept_table h s) w) ≡
      cond (within (page_words * s) (page_words * page_count h.table s) w) false (not (is_free h.table (w / page_words)) && unswept_at h.table w)
  late_swept w = rw (scaled s n w) (go (within s n (w / page_words)) refl (nothing_left h s) refl (eqb (owner t (w / page_words)) 0) refl)
    where
      go : (b : Bool) → within s n (w / page_words) ≡ b → (c : Bool) → nothing_left h s ≡ c → (d : Bool) → eqb (owner t (w / page_words)) 0 ≡ d →
          (not (is_free u (w / page_words)) && unswept_at u w) ≡ cond b false (not d && unswept_at t w)
      go true e true f d g = rw (gone F s span f (w / page_words) e).0
      go true e false f d g =
          let r = within_true s n (w / page_words) e in
          let o = F.spans.body s (w / page_words) span r.0 r.1 in
          rw (flag_is w (omega arith) (rw (stays F s span f (w / page_words)).0 (omega arith)), scaled s n w, e) (and-false (not (is_free u (w / page_words))))
      go false e c f true g = rw ((outside F s span (w / page_words) e).0, g)
      go false e c f false g =
          let x : 0 < owner t (w / page_words) = omega (arith, eqb-false (owner t (w / page_words)) 0 g) in
          rw (flag_is w x (rw (outside F s span (w / page_words) e).0 x), scaled s n w, e, (outside F s span (w / page_words) e).0, g)

  pub was_late : (w : ℕ) → within (page_words * s) (page_words * page_count h.table s) w ≡ true → unswept_at h.table w ≡ true
  was_late w x =
      let y = within_true (page_words * s) (page_words * n) w x in
      let z = at_home F.spans s w span (omega arith) (omega arith) in
      rw (z.1, le-leb unswept_flag (kind_entry t s) unswept)

  -- the kept elements are the same
  kept_is : (v : ℕ) → kept_at P u b' v ≡ kept h v
  kept_is v = same_test (kept_at P u b' v) (kept h v) (λ x. rw (same (alive (unswept_at u v) x)) at x) (λ x. rw (same (alive_too (q v) refl x)) x)
    where
      marks : (b : Bool) → T (cond b false (m v)) → T (cond b (m v) (a v))
      marks true x = absurd x
      marks false x = F.bits.marks v x

      alive : (c : Bool) → T (cond c (bit P marked b' v) (bit P allocated b' v)) → T (cond (q v) (m v) (a v))
      alive true z = marks (q v) (rw (at marked v) at z)
      alive false z = rw (at allocated v) at z

      alive_too : (b : Bool) → q v ≡ b → T (kept h v) → T (cond b (m v) (a v))
      alive_too true e x = rw (was_late v e) at x
      alive_too false e x = kept_allocated_lem F.bits v x

      by : (b : Bool) → q v ≡ b → cond (cond b false (unswept_at t v)) (cond b false (m v)) (cond b (m v) (a v)) ≡ kept h v
      by true e = rw (was_late v e)
      by false e = refl

      same : T (cond (q v) (m v) (a v)) → kept_at P u b' v ≡ kept h v
      same x =
          let E = F.bits.element v (was_a v x) in
          rw (flag_is v E.lies.used (rw (stay_like v x).page E.lies.used), at marked v, at allocated v) (by (q v) refl)

  swept_refers : (x : ℕ) → Reference P t h.bits x → Reference P u b' x
  swept_refers = refers_over P t u h.bits b' (λ w k. rw (kept_is w) k)

  swept_references : References (swept_span s h)
  swept_references = record {
    root = λ x l. swept_refers (get_or h.roots x 0) (F.references.root x l);
    content = λ v x kp. let f = was_p v x in swept_refers (get_or h.arena v 0)
        (F.references.content v f.0 (rw (kept_is (element_of t v)) at (rw (like_element f.2) at kp)));
  }

  swept_phases : phase h ≡ sweep → Phases P (phase h) u b'
  swept_phases two = record {
    none = λ e. absurd (omega arith);
    swept = λ d. absurd (d two);
    plain = λ d v. rw (at gray v) (F.phases.plain d v);
    unswept = λ e v x. still v (q v) refl (rw (at marked v) at x);
  }
    where
      still : (v : ℕ) (b : Bool) → q v ≡ b → T (cond b false (m v)) → T (unswept_at u v)
      still v true e x = absurd x
      still v false e x =
          let E = F.bits.element v (F.bits.marks v x) in
          let y : T (cond (q v) (m v) (a v)) = rw e (F.bits.marks v x) in
          rw (flag_is v E.lies.used (rw (stay_like v y).page E.lies.used), e) (F.phases.unswept two v x)

  -- a span of the result was one, and an element of it is left
  swept_occupied : Occupied P u b'
  unfolding nothing_left
  swept_occupied r e = go (eqb r s) refl (nothing_left h s) refl
    where
      there : (w : ℕ) → T (cond (q w) (m w) (a w)) → span_of t w ≡ r → (v : ℕ) × T (bit P allocated b' v) × (span_of u v ≡ r)
      there w x z = (w, rw (at allocated w) x, (stay_like w x).at ∙ z)

      was : (c : Bool) → nothing_left h s ≡ c → r ≢ s → IsSpan t r
      was true b d = up (within s n r) refl
        where
          up : (c : Bool) → within s n r ≡ c → IsSpan t r
          up true x = absurd (omega (arith, gone F s span b r x))
          up false x = sym (outside F s span r x).0 ∙ e
      was false b d = sym (stays F s span b r).0 ∙ e

      go : (b : Bool) → eqb r s ≡ b → (c : Bool) → nothing_left h s ≡ c → (v : ℕ) × T (bit P allocated b' v) × (span_of u v ≡ r)
      go true p true b = absurd (omega (arith, eqb-true r s p, gone F s span b r (ap (within s n) (eqb-true r s p) ∙ (own F s span))))
      go true p false b =
          let k = some_fails (elements t s) (λ k. not (m (element_start t s k))) b in
          let w = element_word F.spans s k.0 (element_start t s k.0) span k.1 (omega arith) (omega (arith, (fits F.spans s span).words)) in
          let y = q_home (element_start t s k.0) (omega (arith, w.0)) ∙ eq-eqb (span_of t (element_start t s k.0)) s w.1 in
          there (element_start t s k.0) (rw y (is_true _ (not-false (m (element_start t s k.0)) k.2))) (w.1 ∙ sym (eqb-true r s p))
      go false p c b =
          let f = F.occupied r (was c b (eqb-false r s p)) in
          let x = q_home f.0 (F.bits.element f.0 f.1).lies.used ∙ ap (λ (i : ℕ). eqb i s) f.2 ∙ p in
          there f.0 (rw x f.1) f.2

  pub swept_kept : phase h ≡ sweep → Audited (swept_span s h)
  swept_kept two = record {
    sized = record {
      low = F.sized.low;
      high = F.sized.high;
      arena = F.sized.arena;
      table = table_length F s span;
      bits = swept_length h F.sized s (inside F s span) ∙ F.sized.bits;
      roots = F.sized.roots;
    };
    spans = swept_spans F s span;
    bits = swept_bits_lem two;
    phases = swept_phases two;
    references = swept_references;
    states = F.states;
    occupied = swept_occupied;
  }

-- "unswept only in phase sweep"
pub sweeping : {h : Heap} → Audited h → (s : ℕ) → IsSpan h.table s → unswept_flag ≤ kind_entry h.table s → phase h ≡ sweep
sweeping {h} F s i u = go (eqb (phase h) sweep) refl
  where
    go : (b : Bool) → eqb (phase h) sweep ≡ b → phase h ≡ sweep
    go true e = eqb-true (phase h) sweep e
    go false e = absurd (omega (arith, F.phases.swept (eqb-false (phase h) sweep e) s i))

-- so that any unswept span may be swept
pub span_kept : {h : Heap} → Audited h → (s : ℕ) → IsSpan h.table s → unswept_flag ≤ kind_entry h.table s → Audited (swept_span s h)
span_kept F s i u = swept_kept F s i u (sweeping F s i u)

pub sweeps_kept : {h : Heap} {gs : List Heap} → Sweeps h gs → Audited h → Audited (last_of h gs)
unfolding last_of
sweeps_kept none F = F
sweeps_kept (more s i u x) F = sweeps_kept x (span_kept F s i u)

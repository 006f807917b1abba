-- Pointer words: of one element, of the kept elements of one span, found by their bits, and of all spans.
use Prim.Native.Nat.{ℕ, ◌+◌, ◌-◌, ◌*◌, ◌<◌, ◌≤◌}
use mathlib.Core.Bool.{Bool, true, false, not}
use mathlib.Core.List.{List}
use mathlib.Core.Path.{◌≡◌, refl, sym, ◌∙◌, ap}
use native.Mathlib.Omega.{arith}
use lib.Dec.{T, eqb, ltb}
use lib.ListN.{get_or}
use borrow.Author.Tests.{ltb-true, ltb-false, eqb-true, eqb-false}
use Rattle.model.specs.Classes.{rows, most_large, element_words_of}
use Rattle.model.specs.Memory.{page_words, pointer_part}
use Rattle.model.specs.Bounded.{first_below}
use Rattle.model.specs.Bitmaps.{bit_at, pointer}
use Rattle.model.specs.Spans.{page_count, is_scan, is_unswept, span_of, element_of, element_words}
use Rattle.model.proofs.Tests.{is_true, of_true, clash}
use Rattle.model.proofs.Bounded.{first_props}
use Rattle.model.proofs.Bitmaps.{bit_in_lem}
use Rattle.model.specs.Facts.{IsSpan, Element, Reference, bit, kept_at}
use Rattle.model.proofs.Spans.{at_home, span_of_lem, in_span, own_word, round, whole, fits}
use Rattle.model.proofs.Named.{kept_allocated_lem}
use Rattle.model.proofs.Facts.{no_pointer}
use Rattle.page_table.specs.Span.{Reads}
use Rattle.page_table.specs.declared.Span.{Span}
use Rattle.audit_references.specs.References.{kept_from}
use Rattle.audit_references.proofs.References.{kept_is}
use Rattle.audit_words.specs.Contents.{Filled, ElementAt, Pointers, SpanContents, Contents, Searched}

-- the kept elements from word `first` on whose bit stands below `at` have references in their pointer words
abbrev pub ContentsBelow : ℕ → List ℕ → List ℕ → List ℕ → ℕ → ℕ → ℕ → ℕ → ℕ → Type 0
ContentsBelow p a t b first n from end at =
    (w : ℕ) → first ≤ w → from + w < at → from + w < end → T (kept_at p t b w) → Pointers p a t b w n

-- the bits of kept elements start at most behind the allocated ones
from_bound : (p : ℕ) (unswept : Bool) → kept_from p unswept ≤ page_words * p
from_bound p true = omega arith
from_bound p false = omega arith

-- the pointer bit of word f of an element
pub pointer_is : (p : ℕ) (b : List ℕ) (w f at : ℕ) → at ≡ pointer_part * (page_words * p) + w + f → w + f < page_words * p → bit_at b at ≡ bit p pointer b (w + f)
pointer_is p b w f at e l =
    let z : at ≡ pointer_part * (page_words * p) + (w + f) = omega arith in
    rw z (sym (bit_in_lem (page_words * p) pointer b (w + f) l))

module _ (p : ℕ) (a t b : List ℕ) (F : Filled p a t b) where
  -- one element

  -- word f is no pointer, those before it hold references
  pub stopped : (w n : ℕ) → ElementAt p t w n → (f : ℕ) → f < n → ((k : ℕ) → k < f → T (bit p pointer b (w + k)) × Reference p t b (get_or a (w + k) 0)) →
      bit p pointer b (w + f) ≡ false → Pointers p a t b w n
  stopped w n E f l h e k m x = go (ltb k f) refl
    where
      size : ℕ
      size = element_words t (span_of t w)

      lowest : ℕ
      lowest = first_below size (λ j. not (bit p pointer b (w + j)))

      low : (c : Bool) → ltb f lowest ≡ c → lowest ≤ f
      low true q =
          clash (not (bit p pointer b (w + f))) (ap not e) ((first_props size (λ j. not (bit p pointer b (w + j)))).before f (ltb-true f lowest q))
      low false q = ltb-false f lowest q

      go : (c : Bool) → ltb k f ≡ c → Reference p t b (get_or a (w + k) 0)
      go true q = (h k (ltb-true k f q)).1
      go false q =
          clash (bit p pointer b (w + k)) (of_true _ x) (no_pointer F.consistent.spans F.consistent.rules w E.element k (omega (arith, ltb-false k f q, low (ltb f lowest) refl)) (omega (arith, E.size)))

  -- the kept elements of the span at page s

  -- what its entry gives
  searched : (s n from end : ℕ) → IsSpan t s → n ≡ element_words t s → from ≡ kept_from p (is_unswept t s) → end ≡ from + page_words * (s + page_count t s) → Searched p t s n from end
  searched s n from end i size start stop =
      record { span = i; size = size; start = start; stop = stop; low = omega (arith, from_bound p (is_unswept t s)); inside = F.consistent.spans.inside s i }

  pub each_span : Contents p a t b → (s : ℕ) → IsSpan t s → SpanContents p a t b s
  each_span h s i w l m x f n y =
      let E = F.consistent.rules.element w (kept_allocated_lem F.consistent.rules w x) in
      let e = (at_home F.consistent.spans s w i l m).1 in
      let o = (own_word F.consistent.spans w f E (rw e n)).0 in
      h (w + f) y (rw o x)

  -- .. as it was read
  module _ {s : ℕ} {r : Span} (R : Reads t s r) (i : IsSpan t s) where
    pub read_bounds : (r.class ≤ rows) × (r.pages ≤ most_large) × (s + r.pages ≤ p)
    read_bounds =
        let e = F.consistent.spans.entry s i in
        (rw R.class (omega (arith, e.kind)), rw R.pages (fits F.consistent.spans s i).short, rw R.pages (F.consistent.spans.inside s i))

    pub read_searched : (n from end : ℕ) → n ≡ element_words_of r.class r.pages → from ≡ kept_from p r.unswept → end ≡ from + page_words * (s + r.pages) → Searched p t s n from end
    read_searched n from end size start stop = searched s n from end i (rw (R.class, R.pages) at size) (rw R.unswept at start) (rw R.pages at stop)

    -- it has no pointers
    pub plain_span : r.scan ≡ false → T (is_scan t s) → SpanContents p a t b s
    plain_span e x = clash (is_scan t s) (of_true _ x) (sym R.scan ∙ e)

  module _ (s n from end : ℕ) (S : Searched p t s n from end) (first : ℕ) (e : first ≡ page_words * s) where
    kept_bit : (w : ℕ) → first ≤ w → from + w < end → bit_at b (from + w) ≡ kept_at p t b w
    kept_bit w l m = kept_is p t b s w from (at_home F.consistent.spans s w S.span (omega arith) (omega (arith, S.stop))).1 S.start (omega (arith, S.stop, S.inside))

    -- the first bit from `at` on is j, or `end`
    module _ (at j : ℕ) (low : from + first ≤ at) (found : j ≡ at + first_below (end - at) (λ k. bit_at b (at + k))) (h : ContentsBelow p a t b first n from end at) where
      pub passed : ContentsBelow p a t b first n from end j
      passed w l m q x = go (ltb (from + w) at) refl
        where
          go : (c : Bool) → ltb (from + w) at ≡ c → Pointers p a t b w n
          go true e = h w l (ltb-true (from + w) at e) q x
          go false e =
              let z : at + (from + w - at) ≡ from + w = omega (arith, ltb-false (from + w) at e) in
              clash (kept_at p t b w) (of_true _ x) (sym (kept_bit w l q) ∙ rw z at ((first_props (end - at) (λ k. bit_at b (at + k))).before (from + w - at) (omega (arith, ltb-false (from + w) at e))))

      pub next : (j < end → Pointers p a t b (j - from) n) → ContentsBelow p a t b first n from end (j + 1)
      next y w l m q x = go (eqb (from + w) j) refl
        where
          go : (c : Bool) → eqb (from + w) j ≡ c → Pointers p a t b w n
          go true e = let z : j - from ≡ w = omega (arith, eqb-true (from + w) j e) in rw z at (y (omega (arith, eqb-true (from + w) j e)))
          go false e = passed w l (omega (arith, eqb-false (from + w) j e)) q x

    -- .. and is set
    module _ (at j : ℕ) (low : from + first ≤ at) (found : j ≡ at + first_below (end - at) (λ k. bit_at b (at + k))) (l : j < end) where
      found_kept : T (kept_at p t b (j - from))
      found_kept =
          let z : from + (j - from) ≡ j = omega arith in
          is_true _ (sym (kept_bit (j - from) (omega arith) (omega arith)) ∙ rw (z, found) ((first_props (end - at) (λ k. bit_at b (at + k))).holds (omega arith)))

      pub found_element : ElementAt p t (j - from) n
      found_element = record { element = E; size = here; inside = omega (arith, here, (whole F.consistent.spans (j - from) E).1) }
        where
          E : Element t (j - from)
          E = F.consistent.rules.element (j - from) (kept_allocated_lem F.consistent.rules (j - from) found_kept)

          here : n ≡ element_words t (span_of t (j - from))
          here = rw (at_home F.consistent.spans s (j - from) S.span (omega arith) (omega (arith, S.stop))).1 S.size

      pub found_pointers : SpanContents p a t b s → Pointers p a t b (j - from) n
      found_pointers g = rw S.size (g (j - from) (omega arith) (omega (arith, S.stop)) found_kept)

    pub all : (at : ℕ) → end ≤ at → ContentsBelow p a t b first n from end at → SpanContents p a t b s
    all at l h w m q x = rw S.size at (h w (omega arith) (omega (arith, S.stop)) (omega (arith, S.stop)) x)

  -- all spans

  pub every_span : ((s : ℕ) → s < p → IsSpan t s → T (is_scan t s) → SpanContents p a t b s) → Contents p a t b
  every_span h w y x =
      let f = F.consistent.rules.pointers w y in
      let u = f.0.used in
      let s = span_of t w in
      let i = span_of_lem F.consistent.spans w u in
      let r = round F.consistent.spans w u in
      let z : element_of t w + (w - element_of t w) ≡ w = omega (arith, r.1) in
      let d = F.consistent.spans.inside s i in
      rw z at (h s (omega (arith, in_span F.consistent.spans w u)) i f.1 (element_of t w) r.0 (omega (arith, r.1, (in_span F.consistent.spans w u).1)) x (w - element_of t w) (omega (arith, r.1, r.2)) (rw z y))

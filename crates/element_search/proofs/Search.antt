-- What a span that the audit has passed gives the search for a free element: its class and page count are in range, its elements lie within the
-- bitmaps, and the bits that the search reads are the allocated bits of its elements. And what each way out of the search has found.
use Prim.Native.Nat.{ℕ, ◌+◌, ◌*◌, ◌<◌, ◌≤◌}
use mathlib.Core.Bool.{Bool, true, false, not, and-false}
use mathlib.Core.List.{List}
use mathlib.Core.Path.{◌≡◌, refl, sym, ◌∙◌, ap}
use native.Mathlib.Omega.{arith}
use lib.Dec.{eqb}
use borrow.Author.Tests.{lt-ltb, le-ltb, eq-eqb, ne_eqb, eqb-true, eqb-false}
use Rattle.model.specs.Bounded.{first_below}
use Rattle.model.specs.Memory.{Heap, lent, max_pages, page_words, first_word}
use Rattle.model.specs.Classes.{element_words_of, elements_of}
use Rattle.model.specs.Bitmaps.{bit_at, allocated}
use Rattle.model.specs.Spans.{starts_span, page_count, class_at, element_words, elements, element_start}
use Rattle.model.specs.Allocate.{free_element, has_room, span_with_room}
use Rattle.model.specs.Lent.{MappedSpan}
use Rattle.model.proofs.Bounded.{first_is, first_cong}
use Rattle.model.proofs.Bitmaps.{bit_in_lem}
use Rattle.model.proofs.Classes.{Fits}
use Rattle.model.proofs.Spans.{fits, element_fits}
use Rattle.bitmap.specs.Starts.{Starts, ElementRow}
use Rattle.element_search.specs.Free.{FreeIn, FreeBetween, FreeOf}
use Rattle.units.specs.declared.Word.{Word}
use Rattle.page_table.specs.declared.Span.{Span}
use Rattle.page_table.specs.Span.{Reads}
use Rattle.std.specs.Prelude.{Option, Some, None}
use Rattle.std.proofs.Common.{zero-add}
use Rattle.bitmap.specs.Search.{found}
use Rattle.bitmap.proofs.Found.{found_some, found_none}
use Rattle.model.specs.Lent.{Mapped, StartsMask}
use Rattle.model.specs.Facts.{IsSpan}
use Rattle.model.proofs.Lent.{mapped_span}

module _ {p : ℕ} {t b : List ℕ} {s : ℕ} (X : MappedSpan p t b s) where
  shape : Fits (class_at t s) (page_count t s)
  shape = fits X.spans s X.first

  inside : s + page_count t s ≤ p
  inside = X.spans.inside s X.first

  -- the elements lie within the bitmaps
  row : (mask : ℕ) → Starts (element_words t s) mask → ElementRow b (first_word s) (element_words t s) (elements t s) mask
  row mask m = record {
    aligned = omega arith;
    some = shape.words;
    inside = omega (arith, shape.inside, inside, X.bits);
    fits = omega (arith, shape.inside, inside, X.few);
    starts = m;
  }

  -- the lowest clear bit at an element's start is the lowest free element
  free_is : (a o : List ℕ) → first_below (elements t s) (λ k. not (bit_at b (first_word s + k * element_words t s))) ≡ free_element (lent p a t b o) s
  unfolding free_element
  free_is a o =
      first_cong (elements t s) _ _ (λ k l.
      ap not (sym (bit_in_lem (page_words * p) allocated b (element_start t s k) (omega (arith, element_fits X.spans s k X.first l, inside, shape.words)))))

-- page s, as the search has read it: a span starts there, and `span` is what its entry says; `size` and `count` are of its elements, the first of
-- which has the first word `first`
pub record Seen (p : ℕ) (t b : List ℕ) (s : ℕ) (span : Span) (first size count : ℕ) : Type 0 where
  pub mapped : Mapped p t b
  pub starts : starts_span t s ≡ true
  pub reads : Reads t s span
  pub first_is : first ≡ first_word s
  pub layout : (size ≡ element_words_of span.class span.pages) × (count ≡ elements_of span.class)

pub seen : {p : ℕ} {t b : List ℕ} {s : ℕ} {span : Span} {first size count : ℕ} → Mapped p t b → starts_span t s ≡ true → Reads t s span → first ≡ first_word s →
    (size ≡ element_words_of span.class span.pages) × (count ≡ elements_of span.class) → Seen p t b s span first size count
seen m e R f L = record { mapped = m; starts = e; reads = R; first_is = f; layout = L }

module _ {p : ℕ} {t b : List ℕ} {s : ℕ} {span : Span} {first size count : ℕ} (S : Seen p t b s span first size count) where
  starting : IsSpan t s
  starting = eqb-true _ _ S.starts

  there : MappedSpan p t b s
  there = mapped_span S.mapped s starting

  size_is : size ≡ element_words t s
  size_is = rw (S.reads.class, S.reads.pages) at S.layout.0

  count_is : count ≡ elements t s
  count_is = rw S.reads.class at S.layout.1

  pub elements_lie : (mask : ℕ) → StartsMask size mask → ElementRow b first size count mask
  elements_lie mask m = rw (S.first_is, size_is, count_is) (row there mask (record { bit = rw size_is at m }))

  -- what the search among the bits gives is the lowest free element
  lowest_free : (a o : List ℕ) → first_below count (λ k. not (bit_at b (first + k * size))) ≡ free_element (lent p a t b o) s
  lowest_free a o = rw (S.first_is, size_is, count_is) (free_is there a o)

  module _ {k : ℕ} (e : Some k ≡ found 0 count (λ k. not (bit_at b (first + k * size)))) where
    low : (k ≡ first_below count (λ k. not (bit_at b (first + k * size)))) × (first_below count (λ k. not (bit_at b (first + k * size))) < count)
    low = let f = found_some 0 count _ e in (f.0 ∙ zero-add _, f.1)

    -- it lies in the arena
    pub element_inside : first + k * size ≤ max_pages * page_words
    element_inside =
        let l : k < count = omega (arith, low.0, low.1) in
        rw (S.first_is, size_is) (omega (arith, element_fits there.spans s k starting (rw count_is at l), inside there, there.few))

    -- and the span has room, if it is of the kind
    pub some_free : (a o : List ℕ) (kind : ℕ) → span.flagged ≡ kind → (word : Word) → word.0 ≡ first + k * size → FreeIn (lent p a t b o) kind s (Some word)
    some_free a o kind same word w =
        let f : k ≡ free_element (lent p a t b o) s = low.0 ∙ lowest_free a o in (
          rw (S.starts, eq-eqb _ _ (sym S.reads.flagged ∙ same), ← f, ← count_is, lt-ltb k count (omega (arith, low.0, low.1))),
          rw (← f, ← S.first_is, ← size_is) w,
        )

  pub none_free : None ≡ found 0 count (λ k. not (bit_at b (first + k * size))) → (a o : List ℕ) (kind : ℕ) → FreeIn (lent p a t b o) kind s None
  none_free e a o kind =
      let f : count ≡ free_element (lent p a t b o) s = sym (found_none 0 count _ e) ∙ lowest_free a o in
      rw (← f, ← count_is, le-ltb count count (omega arith), and-false)

-- a span of another kind
pub other_kind : {t : List ℕ} {s : ℕ} {span : Span} → Reads t s span → (p : ℕ) (a b o : List ℕ) (kind : ℕ) → (span.flagged ≡ kind → ⊥) → FreeIn (lent p a t b o) kind s None
other_kind R p a b o kind d = rw (ne_eqb _ _ (λ e. d (R.flagged ∙ e)), and-false)

-- page s is the lowest at which one does, or there is none
lowest : (h : Heap) (kind s : ℕ) (word : Word) → s < h.pages → ((k : ℕ) → k < s → has_room h kind k ≡ false) → FreeIn h kind s (Some word) → FreeOf h kind (Some word)
unfolding span_with_room
lowest h kind s word l f x =
    let e : span_with_room h kind ≡ s = first_is h.pages (has_room h kind) s (record { within = omega arith; before = f; holds = λ _. x.0 }) in
    rw e (lt-ltb s h.pages l, x.1)

none : (h : Heap) (kind : ℕ) → ((k : ℕ) → k < h.pages → has_room h kind k ≡ false) → FreeOf h kind None
unfolding span_with_room
none h kind f =
    let e : span_with_room h kind ≡ h.pages = first_is h.pages (has_room h kind) h.pages (record { within = omega arith; before = f; holds = λ q. absurd (omega arith) }) in
    rw e (le-ltb h.pages h.pages (omega arith))

-- a search from page `from` on: nothing is passed yet, one page more is, it ends at page s, or at page `to`
pub none_yet : {from : ℕ} (P : ℕ → Type 0) → (k : ℕ) → from ≤ k → k < from → P k
none_yet P k x y = absurd (omega arith)

pub one_more : {from : ℕ} (P : ℕ → Type 0) (s : ℕ) → ((k : ℕ) → from ≤ k → k < s → P k) → P s → (k : ℕ) → from ≤ k → k < s + 1 → P k
one_more P s f y k x l = go (eqb k s) refl
  where
    go : (b : Bool) → eqb k s ≡ b → P k
    go true e = rw (eqb-true k s e) y
    go false e = f k x (omega (arith, eqb-false k s e))

-- of all pages, and of one
pub of_all : (h : Heap) (kind : ℕ) (r : Option Word) → FreeBetween h kind 0 h.pages r → FreeOf h kind r
of_all h kind (Some word) L = lowest h kind L.page word L.high (λ k l. L.before k (omega arith) l) L.here
of_all h kind None f = none h kind (λ k l. f k (omega arith) l)

pub of_one : (h : Heap) (kind s : ℕ) (r : Option Word) → FreeBetween h kind s (s + 1) r → FreeIn h kind s r
of_one h kind s (Some word) L = let z : L.page ≡ s = omega (arith, L.low, L.high) in rw z at L.here
of_one h kind s None f = f s (omega arith) (omega arith)

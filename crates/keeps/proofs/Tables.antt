-- Page tables that say the same of a word, but for the unswept flag, and a new span in free pages: the facts stay, the allocated words see no
-- change, and the new span's first element may be allotted.
use Prim.Native.Nat.{ℕ, ◌+◌, ◌-◌, ◌/◌, ◌%◌, ◌<◌, ◌≤◌}
use mathlib.Core.List.{List}
use mathlib.Core.Bool.{Bool, true, false}
use mathlib.Core.Logic.{◌⊎◌, inl, inr, ◌≢◌}
use mathlib.Core.Path.{◌≡◌, refl, ap, sym, ◌∙◌}
use native.Mathlib.Omega.{arith}
use lib.Dec.{T, eqb, ltb}
use borrow.Author.Tests.{eq-eqb, ne_eqb}
use Rattle.model.specs.Memory.{page_words, unswept_flag}
use Rattle.model.specs.Bitmaps.{allocated, gray}
use Rattle.model.specs.Classes.{element_words_of}
use Rattle.model.specs.Spans.{owner, page_count, kind_entry, is_scan, element_words, elements, element_start, element_number, span_of, element_of, put_pages, span_page}
use Rattle.model.proofs.Tests.{is_true}
use Rattle.model.proofs.Bounded.{within, within_yes, within_true}
use Rattle.model.proofs.Table.{pages_owner, pages_count, pages_kind}
use Rattle.model.specs.Lent.{PageTable}
use Rattle.model.specs.Facts.{Spans, IsSpan, GoodEntry, InElement, Element, Bits, bit, scan_at, unswept_at}
use Rattle.model.proofs.Spans.{span_of_lem, entry_fits}

-- two tables say the same of a page, but for the flag
abbrev pub SamePage : List ℕ → List ℕ → ℕ → Type 0
SamePage t u g = (owner u g ≡ owner t g) × (page_count u g ≡ page_count t g) × (kind_entry u g % unswept_flag ≡ kind_entry t g % unswept_flag)

-- .. and so of a word
pub record Like (t u : List ℕ) (w : ℕ) : Type 0 where
  pub page : owner u (w / page_words) ≡ owner t (w / page_words)
  pub at : span_of u w ≡ span_of t w
  pub class : kind_entry u (span_of t w) % unswept_flag ≡ kind_entry t (span_of t w) % unswept_flag
  pub long : page_count u (span_of t w) ≡ page_count t (span_of t w)

pub same_words : (t u : List ℕ) (g : ℕ) → SamePage t u g → element_words u g ≡ element_words t g
same_words t u g e = rw (e.2, e.1)

pub like : (t u : List ℕ) (w : ℕ) → SamePage t u (w / page_words) → SamePage t u (span_of t w) → Like t u w
like t u w a b = record { page = a.0; at = rw a.0; class = b.2; long = b.1 }

module _ {t u : List ℕ} {w : ℕ} (L : Like t u w) where
  pub like_scan : scan_at u w ≡ scan_at t w
  like_scan = rw (L.at, L.class)

  pub like_words : element_words u (span_of u w) ≡ element_words t (span_of t w)
  like_words = rw (L.at, L.class, L.long)

  like_number : element_number u (span_of u w) w ≡ element_number t (span_of t w) w
  unfolding element_number
  like_number = rw (L.at, L.class, L.long)

  pub like_element : element_of u w ≡ element_of t w
  like_element = rw (like_number, L.at, L.class, L.long)

  pub like_in : InElement t w → InElement u w
  like_in I = record { used = rw L.page I.used; number = rw (like_number, L.at, L.class) I.number }

  pub like_first : Element t w → Element u w
  like_first E = record { lies = like_in E.lies; first = like_element ∙ E.first }

-- a table that says the same of every word with bits on keeps the facts of the bits
pub bits_like : {P : ℕ} {t u b : List ℕ} → ((w : ℕ) → 0 < owner t (w / page_words) → Like t u w) → Bits P t b → Bits P u b
bits_like {P} {t} {u} {b} L C = record {
  element = λ w a. like_first (L w (C.element w a).lies.used) (C.element w a);
  marks = C.marks;
  grays = λ w g. ((C.grays w g).0, rw (like_scan (L w (used w g))) (C.grays w g).1);
  pointers = λ w p. let f = C.pointers w p in let l = L w f.0.used in (like_in l f.0, rw (like_scan l) f.1, rw (like_element l) f.2);
  head = λ w a s. C.head w a (rw (like_scan (L w (C.element w a).lies.used)) at s);
  unbroken = λ w p d. C.unbroken w p (rw (like_element (L w (C.pointers w p).0.used)) at d);
}
  where
    used : (w : ℕ) → T (bit P gray b w) → 0 < owner t (w / page_words)
    used w g = (C.element w (C.marks w (C.grays w g).0)).lies.used

-- element k of the span at page r is free, and suits a record of p pointers
pub record Chosen (P : ℕ) (t b : List ℕ) (r k p : ℕ) : Type 0 where
  pub span : IsSpan t r
  pub swept : kind_entry t r < unswept_flag
  pub scan : is_scan t r ≡ ltb 0 p
  pub number : k < elements t r
  pub pointers : p ≤ element_words t r
  pub free : bit P allocated b (element_start t r k) ≡ false

-- the pages of a new span are free, and its entry is good
pub record Vacant (P : ℕ) (t : List ℕ) (s n kind : ℕ) : Type 0 where
  pub inside : s + n ≤ P
  pub free : (g : ℕ) → s ≤ g → g < s + n → owner t g ≡ 0
  pub swept : kind < unswept_flag
  pub entry : GoodEntry kind n

module _ {P : ℕ} {t : List ℕ} (k : PageTable P t) (F : Spans P t) {s n kind : ℕ} (Q : Vacant P t s n kind) where
  abbrev u : List ℕ
  u = put_pages s n (span_page s n kind) t

  some : 0 < n
  some = (entry_fits kind n Q.entry).pages

  old : (g : ℕ) → within s n g ≡ false → (owner u g ≡ owner t g) × (page_count u g ≡ page_count t g) × (kind_entry u g ≡ kind_entry t g)
  old g e = (
    rw (pages_owner P s n (span_page s n kind) t Q.inside k g, e),
    rw (pages_count P s n (span_page s n kind) t Q.inside k g, e),
    rw (pages_kind P s n (span_page s n kind) t Q.inside k g, e),
  )

  outer : (g : ℕ) → 0 < owner t g → within s n g ≡ false
  outer g h = go (within s n g) refl
    where
      go : (b : Bool) → within s n g ≡ b → b ≡ false
      go true e = absurd (omega (arith, Q.free g (within_true s n g e).0 (within_true s n g e).1))
      go false e = refl

  pub used_same : (g : ℕ) → 0 < owner t g → let v = put_pages s n (span_page s n kind) t in
      (owner v g ≡ owner t g) × (page_count v g ≡ page_count t g) × (kind_entry v g ≡ kind_entry t g)
  used_same g h = old g (outer g h)

  pub inner : (g : ℕ) → s ≤ g → g < s + n → owner (put_pages s n (span_page s n kind) t) g ≡ s + 1
  inner g a b = rw (pages_owner P s n (span_page s n kind) t Q.inside k g, within_yes s n g a b)

  pub new_entry : let v = put_pages s n (span_page s n kind) t in (page_count v s ≡ n) × (kind_entry v s ≡ kind)
  new_entry = (rw (pages_count P s n (span_page s n kind) t Q.inside k s, yes', same), rw (pages_kind P s n (span_page s n kind) t Q.inside k s, yes', same))
    where
      yes' : within s n s ≡ true
      yes' = within_yes s n s (omega arith) (omega (arith, some))

      same : eqb s s ≡ true
      same = eq-eqb s s refl

  -- a used page is one of the new span's, or was used before
  split : (g : ℕ) → 0 < owner u g → ((owner u g ≡ s + 1) × (s ≤ g) × (g < s + n)) ⊎ (0 < owner t g)
  split g h = go (within s n g) refl
    where
      go : (b : Bool) → within s n g ≡ b → ((owner u g ≡ s + 1) × (s ≤ g) × (g < s + n)) ⊎ (0 < owner t g)
      go true e = let f = within_true s n g e in inl (inner g f.0 f.1, f.0, f.1)
      go false e = inr (rw (old g e).0 at h)

  -- a span is the new one or an old one
  pub which : (r : ℕ) → IsSpan (put_pages s n (span_page s n kind) t) r → (r ≡ s) ⊎ IsSpan t r
  which r i = go (split r (omega arith))
    where
      go : (((owner u r ≡ s + 1) × (s ≤ r) × (r < s + n)) ⊎ (0 < owner t r)) → (r ≡ s) ⊎ IsSpan t r
      go (inl f) = inl (omega arith)
      go (inr h) = inr (sym (used_same r h).0 ∙ i)

  pub carve_spans : Spans P (put_pages s n (span_page s n kind) t)
  carve_spans = record {
    whose = λ g h. whose g (split g h);
    body = λ r g i a b. body r g a b (which r i);
    inside = λ r i. inside r (which r i);
    rest = λ g d. rest g d (within s n g) refl;
    entry = λ r i. entry r (which r i);
  }
    where
      whose : (g : ℕ) → (((owner u g ≡ s + 1) × (s ≤ g) × (g < s + n)) ⊎ (0 < owner t g)) →
          IsSpan u (owner u g - 1) × (owner u g - 1 ≤ g) × (g < owner u g - 1 + page_count u (owner u g - 1))
      whose g (inl f) = let e : owner u g - 1 ≡ s = omega arith in rw (e, inner s (omega arith) (omega (arith, some)), new_entry.0) (refl, f.1, f.2)
      whose g (inr h) = let f = F.whose g h in let p : 0 < owner t (owner t g - 1) = omega arith in
          rw ((used_same g h).0, (used_same (owner t g - 1) p).0, (used_same (owner t g - 1) p).1) f

      body : (r g : ℕ) → r ≤ g → g < r + page_count u r → ((r ≡ s) ⊎ IsSpan t r) → owner u g ≡ r + 1
      body r g a b (inl e) = rw e (inner g (omega arith) (omega (arith, rw (e, new_entry.0) at b)))
      body r g a b (inr i) = let f = F.body r g i a (rw (used_same r (omega arith)).1 at b) in (used_same g (omega arith)).0 ∙ f

      inside : (r : ℕ) → ((r ≡ s) ⊎ IsSpan t r) → r + page_count u r ≤ P
      inside r (inl e) = rw (e, new_entry.0) Q.inside
      inside r (inr i) = rw (used_same r (omega arith)).1 (F.inside r i)

      rest : (g : ℕ) → owner u g ≢ g + 1 → (b : Bool) → within s n g ≡ b → (page_count u g ≡ 0) × (kind_entry u g ≡ 0)
      rest g d true e =
          let f = within_true s n g e in
          let z : eqb g s ≡ false = ne_eqb g s (λ x. d (inner g f.0 f.1 ∙ ap (λ i. i + 1) (sym x))) in
          (rw (pages_count P s n (span_page s n kind) t Q.inside k g, e, z), rw (pages_kind P s n (span_page s n kind) t Q.inside k g, e, z))
      rest g d false e = let o = old g e in rw (o.1, o.2) (F.rest g (rw o.0 at d))

      entry : (r : ℕ) → ((r ≡ s) ⊎ IsSpan t r) → GoodEntry (kind_entry u r) (page_count u r)
      entry r (inl e) = rw (e, new_entry.0, new_entry.1) Q.entry
      entry r (inr i) = rw ((used_same r (omega arith)).1, (used_same r (omega arith)).2) (F.entry r i)

  pub carve_like : (w : ℕ) → 0 < owner t (w / page_words) → Like t (put_pages s n (span_page s n kind) t) w
  carve_like w h = like t u w (same (w / page_words) h) (same (span_of t w) (omega (arith, span_of_lem F w h)))
    where
      same : (g : ℕ) → 0 < owner t g → SamePage t u g
      same g h = ((used_same g h).0, (used_same g h).1, rw (used_same g h).2)

  pub carve_bits : {b : List ℕ} → Bits P t b → Bits P (put_pages s n (span_page s n kind) t) b
  carve_bits C = bits_like carve_like C

  -- a used word is unswept as before
  pub carve_unswept : (w : ℕ) → 0 < owner t (w / page_words) → unswept_at (put_pages s n (span_page s n kind) t) w ≡ unswept_at t w
  carve_unswept w h = rw ((carve_like w h).at, (used_same (span_of t w) (omega (arith, span_of_lem F w h))).2)

  -- its first element is free
  pub carve_chosen : {b : List ℕ} → Bits P t b → (p : ℕ) → eqb (kind % unswept_flag % 2) 0 ≡ ltb 0 p → p ≤ element_words_of (kind % unswept_flag / 2) n →
      Chosen P (put_pages s n (span_page s n kind) t) b s 0 p
  carve_chosen {b} C p sc l = record {
    span = inner s (omega arith) (omega (arith, some));
    swept = rw new_entry.1 Q.swept;
    scan = rw new_entry.1 sc;
    number = rw new_entry.1 (entry_fits kind n Q.entry).some;
    pointers = rw (new_entry.1, new_entry.0) l;
    free = go (bit P allocated b (element_start u s 0)) refl;
  }
    where
      go : (x : Bool) → bit P allocated b (element_start u s 0) ≡ x → x ≡ false
      go true a = absurd (omega (arith, (C.element (element_start u s 0) (is_true _ a)).lies.used, Q.free (element_start u s 0 / page_words) (omega arith) (omega (arith, some))))
      go false a = refl

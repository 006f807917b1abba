-- Where things lie. `Spans` is what the audit says of a page table of P pages; from it follow: the span and the element that a word lies in,
-- and that spans and elements do not overlap. The arithmetic that multiplies two unknowns stands in the first section alone.
use Prim.Native.Nat.{ℕ, ◌+◌, ◌-◌, ◌*◌, ◌/◌, ◌%◌, ◌<◌, ◌≤◌}
use mathlib.Core.Bool.{Bool, true, false}
use mathlib.Core.List.{List}
use mathlib.Core.Logic.{◌⊎◌, inl, inr, ◌≢◌}
use mathlib.Core.Path.{◌≡◌, refl, sym, ◌∙◌, ap}
use native.Mathlib.Omega.{arith}
use native.Mathlib.Nat.{mul-le-mul_right, suc-mul, div-add-mod', mod-lt}
use lib.Arith.{digits_div}
use lib.Dec.{eqb, ltb}
use borrow.Author.Tests.{ltb-true, ltb-false, eqb-true, eqb-false}
use Rattle.model.specs.Memory.{page_words, unswept_flag}
use Rattle.model.specs.Spans.{owner, page_count, kind_entry, element_words, elements, element_start, element_number, span_of, element_of}
use Rattle.model.specs.Facts.{IsSpan, GoodEntry, Spans, InElement, Element}
use Rattle.model.proofs.Classes.{Fits, small_fits, large_fits}

-- the first word of the element, of the span at page s, that word v lies in
abbrev pub start_in : List ℕ → ℕ → ℕ → ℕ
start_in t s v = element_start t s (element_number t s v)

-- the words from its first on belong to element k
pub number_is : (t : List ℕ) (s k v : ℕ) → element_start t s k ≤ v → v < element_start t s k + element_words t s → element_number t s v ≡ k
unfolding element_number
number_is t s k v a b =
    let e : v - page_words * s ≡ k * element_words t s + (v - element_start t s k) = omega arith in
    rw e (digits_div k {m = element_words t s} {r = v - element_start t s k} (omega arith))

pub start_is : (t : List ℕ) (s k v : ℕ) → element_start t s k ≤ v → v < element_start t s k + element_words t s → start_in t s v ≡ element_start t s k
start_is t s k v a b = rw (number_is t s k v a b)

pub start_same : (t : List ℕ) (s w v : ℕ) → start_in t s w ≡ w → w ≤ v → v < w + element_words t s → start_in t s v ≡ w
start_same t s w v e a b = start_is t s (element_number t s w) v (omega arith) (omega arith) ∙ e

pub number_same : (t : List ℕ) (s w v : ℕ) → start_in t s w ≡ w → w ≤ v → v < w + element_words t s → element_number t s v ≡ element_number t s w
number_same t s w v e a b = number_is t s (element_number t s w) v (omega arith) (omega arith)

-- .. and it lies around the word
pub start_range : (t : List ℕ) (s v : ℕ) → page_words * s ≤ v → 0 < element_words t s → (page_words * s ≤ start_in t s v) × (start_in t s v ≤ v) × (v < start_in t s v + element_words t s)
unfolding element_number
start_range t s v h l =
    let d = div-add-mod' (v - page_words * s) (element_words t s) in
    let m = mod-lt (v - page_words * s) l in
    (omega arith, omega arith, omega arith)

-- elements do not overlap
pub elements_apart : (t : List ℕ) (s k v : ℕ) → start_in t s v ≡ v → v ≢ element_start t s k → (v + element_words t s ≤ element_start t s k) ⊎ (element_start t s k + element_words t s ≤ v)
elements_apart t s k v e d = go (ltb (element_number t s v) k) refl (ltb k (element_number t s v)) refl
  where
    j : ℕ
    j = element_number t s v

    n : ℕ
    n = element_words t s

    go : (a : Bool) → ltb (element_number t s v) k ≡ a → (b : Bool) → ltb k (element_number t s v) ≡ b →
        (v + element_words t s ≤ element_start t s k) ⊎ (element_start t s k + element_words t s ≤ v)
    go true p b q = inl (omega (arith, e, rw (suc-mul (element_number t s v) (element_words t s)) at (mul-le-mul_right (element_words t s) (ltb-true (element_number t s v) k p))))
    go false p true q = inr (omega (arith, e, rw (suc-mul k (element_words t s)) at (mul-le-mul_right (element_words t s) (ltb-true k (element_number t s v) q))))
    go false p false q =
        let x : element_number t s v ≡ k = omega (arith, ltb-false (element_number t s v) k p, ltb-false k (element_number t s v) q) in
        absurd (d (sym e ∙ ap (element_start t s) x))

-- element k of the first m lies in the words of all m
product_fits : (k m n : ℕ) → k < m → k * n + n ≤ m * n
product_fits k m n l = omega (arith, rw (suc-mul k n) at (mul-le-mul_right n l))

-- the elements of a span fit into it
pub entry_fits : (kind count : ℕ) → GoodEntry kind count → Fits (kind % unswept_flag / 2) count
entry_fits kind count G = go (eqb (kind % unswept_flag / 2) 0) refl
  where
    go : (b : Bool) → eqb (kind % unswept_flag / 2) 0 ≡ b → Fits (kind % unswept_flag / 2) count
    go true e = let z = eqb-true (kind % unswept_flag / 2) 0 e in let l = G.large z in rw z (large_fits count (omega arith) (omega arith))
    go false e = let z = eqb-false (kind % unswept_flag / 2) 0 e in rw (G.small z) (small_fits (kind % unswept_flag / 2) z (omega (arith, G.kind)))

module _ {P : ℕ} {t : List ℕ} (F : Spans P t) where
  pub fits : (s : ℕ) → IsSpan t s → Fits (kind_entry t s % unswept_flag / 2) (page_count t s)
  fits s e = entry_fits (kind_entry t s) (page_count t s) (F.entry s e)

  pub span_of_lem : (w : ℕ) → 0 < owner t (w / page_words) → IsSpan t (span_of t w)
  span_of_lem w h = (F.whose (w / page_words) h).0

  pub in_span : (w : ℕ) → 0 < owner t (w / page_words) → (page_words * span_of t w ≤ w) × (w < page_words * (span_of t w + page_count t (span_of t w)))
  in_span w h = let f = F.whose (w / page_words) h in (omega arith, omega arith)

  -- a word between the ends of a span lies in it
  pub at_home : (s w : ℕ) → IsSpan t s → page_words * s ≤ w → w < page_words * (s + page_count t s) → (owner t (w / page_words) ≡ s + 1) × (span_of t w ≡ s)
  at_home s w i h k = let e : owner t (w / page_words) ≡ s + 1 = F.body s (w / page_words) i (omega arith) (omega arith) in (e, omega arith)

  pub spans_apart : (s r : ℕ) → IsSpan t s → IsSpan t r → s ≢ r → (s + page_count t s ≤ r) ⊎ (r + page_count t r ≤ s)
  spans_apart s r i j d = go (ltb s r) refl (ltb r (s + page_count t s)) refl (ltb s (r + page_count t r)) refl
    where
      go : (a : Bool) → ltb s r ≡ a → (b : Bool) → ltb r (s + page_count t s) ≡ b → (c : Bool) → ltb s (r + page_count t r) ≡ c → (s + page_count t s ≤ r) ⊎ (r + page_count t r ≤ s)
      go true e true f c g = absurd (omega (arith, ltb-true s r e, F.body s r i (omega (arith, ltb-true s r e)) (ltb-true r (s + page_count t s) f)))
      go true e false f c g = inl (ltb-false r (s + page_count t s) f)
      go false e b f true g = absurd (omega (arith, ltb-false s r e, F.body r s j (ltb-false s r e) (ltb-true s (r + page_count t r) g)))
      go false e b f false g = inr (ltb-false s (r + page_count t r) g)

  -- element k lies in its span
  pub element_fits : (s k : ℕ) → IsSpan t s → k < elements t s → element_start t s k + element_words t s ≤ page_words * (s + page_count t s)
  element_fits s k e l = omega (arith, product_fits k (elements t s) (element_words t s) l, (fits s e).inside)

  -- the words of element k: their span, their element
  pub element_word : (s k v : ℕ) → IsSpan t s → k < elements t s → element_start t s k ≤ v → v < element_start t s k + element_words t s →
      (owner t (v / page_words) ≡ s + 1) × (span_of t v ≡ s) × (element_number t (span_of t v) v ≡ k) × (element_of t v ≡ element_start t s k)
  element_word s k v e l a b =
      let h = at_home s v e (omega arith) (omega (arith, element_fits s k e l)) in
      let n : element_number t (span_of t v) v ≡ k = rw h.1 (number_is t s k v a b) in
      (h.0, h.1, n, rw (n, h.1))

  pub element_at : (s k : ℕ) → IsSpan t s → k < elements t s → Element t (element_start t s k)
  element_at s k e l =
      let h = element_word s k (element_start t s k) e l (omega arith) (omega (arith, (fits s e).words)) in
      record { lies = record { used = omega (arith, h.0); number = rw (h.2, h.1) l }; first = h.3 }

  -- an element that starts at word w lies in its span, and so in the arena
  pub whole : (w : ℕ) → Element t w → (w + element_words t (span_of t w) ≤ page_words * (span_of t w + page_count t (span_of t w))) × (w + element_words t (span_of t w) ≤ page_words * P) × (0 < element_words t (span_of t w))
  whole w E =
      let e = span_of_lem w E.lies.used in
      let l = element_fits (span_of t w) (element_number t (span_of t w) w) e E.lies.number in
      let i = F.inside (span_of t w) e in
      let f = E.first in
      (omega arith, omega arith, (fits (span_of t w) e).words)

  -- .. and its words belong to it
  pub own_word : (w f : ℕ) → Element t w → f < element_words t (span_of t w) → (element_of t (w + f) ≡ w) × (span_of t (w + f) ≡ span_of t w) × InElement t (w + f)
  own_word w f E l =
      let e = E.first in
      let h = element_word (span_of t w) (element_number t (span_of t w) w) (w + f) (span_of_lem w E.lies.used) E.lies.number (omega arith) (omega arith) in
      (h.3 ∙ e, h.1, record { used = omega (arith, h.0); number = rw (h.2, h.1) E.lies.number })

  -- the element that a word of a span lies in, around it
  pub round : (v : ℕ) → 0 < owner t (v / page_words) → (page_words * span_of t v ≤ element_of t v) × (element_of t v ≤ v) × (v < element_of t v + element_words t (span_of t v))
  round v u = start_range t (span_of t v) v (in_span v u).0 (fits (span_of t v) (span_of_lem v u)).words

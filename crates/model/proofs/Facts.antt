-- What follows from the facts of the audit (specs/Facts.antt): which words are kept, named and pointers.
use Prim.Native.Nat.{ℕ, zero, suc, ◌+◌, ◌-◌, ◌*◌, ◌<◌, ◌≤◌}
use mathlib.Core.Bool.{Bool, true, false, not, true≢false}
use mathlib.Core.List.{List}
use mathlib.Core.Logic.{◌≢◌}
use mathlib.Core.Path.{◌≡◌, refl, sym, ◌∙◌}
use native.Mathlib.Omega.{arith}
use lib.ListN.{get_or}
use lib.Dec.{T, eqb, ltb, leb}
use borrow.Author.Tests.{ltb-true, lt-leb}
use Rattle.model.specs.Memory.{Heap, page_words, unswept_flag}
use Rattle.model.specs.Bitmaps.{allocated, pointer, is}
use Rattle.model.specs.Spans.{owner, kind_entry, is_unswept, span_of, element_words, pointer_count, kept}
use Rattle.model.proofs.Tests.{of_true, is_true}
use Rattle.model.proofs.Bounded.{first_props}
use Rattle.model.proofs.Bitmaps.{Four}
use Rattle.model.specs.Facts.{Sized, IsSpan, Spans, Element, bit, Bits, Phases, Reference, Audited}
use Rattle.model.proofs.Spans.{own_word}

pub four : (h : Heap) → Sized h → Four (page_words * h.pages) h.bits
four h Z = omega (arith, Z.bits)

-- no span is unswept
pub swept_all : {P : ℕ} {t : List ℕ} → Spans P t → ((s : ℕ) → IsSpan t s → kind_entry t s < unswept_flag) → (g : ℕ) → is_unswept t g ≡ false
swept_all {P} {t} F Q g = go (eqb (owner t g) (g + 1)) refl
  where
    go : (b : Bool) → eqb (owner t g) (g + 1) ≡ b → leb unswept_flag (kind_entry t g) ≡ false
    go true e = lt-leb unswept_flag (kind_entry t g) (Q g (borrow.Author.Tests.eqb-true (owner t g) (g + 1) e))
    go false e = lt-leb unswept_flag (kind_entry t g) (omega (arith, F.rest g (borrow.Author.Tests.eqb-false (owner t g) (g + 1) e)))

-- none is but in the sweep phase
pub not_unswept : {P ph : ℕ} {t b : List ℕ} → Spans P t → Phases P ph t b → ph ≢ 2 → (g : ℕ) → is_unswept t g ≡ false
not_unswept F Q d = swept_all F (Q.swept d)

-- the pointer words of a kept element hold references
pub pointer_word : {h : Heap} → Audited h → (w : ℕ) → T (is allocated h w) → T (kept h w) → (f : ℕ) → f < pointer_count h w →
    T (is pointer h (w + f)) × Reference h.pages h.table h.bits (get_or h.arena (w + f) 0)
pointer_word {h} F w a kp f l =
    let R = first_props (element_words h.table (span_of h.table w)) (λ k. not (is pointer h (w + k))) in
    let p = is_true _ (borrow.Author.Tests.not-false (is pointer h (w + f)) (R.before f l)) in
    let o = own_word F.spans w f (F.bits.element w a) (omega (arith, R.within)) in
    (p, F.references.content (w + f) p (rw o.0 kp))

-- no pointer bit stands in an element behind its first run
pub no_pointer : {P : ℕ} {t b : List ℕ} → Spans P t → Bits P t b → (w : ℕ) → Element t w → (f : ℕ) →
    let n = element_words t (span_of t w) in Rattle.model.specs.Bounded.first_below n (λ k. not (bit P pointer b (w + k))) ≤ f → f < n → bit P pointer b (w + f) ≡ false
no_pointer {P} {t} {b} F C w E zero l m =
    let n = element_words t (span_of t w) in
    let f = first_props n (λ k. not (bit P pointer b (w + k))) in
    let z : Rattle.model.specs.Bounded.first_below n (λ k. not (bit P pointer b (w + k))) ≡ 0 = omega arith in
    borrow.Author.Tests.not-true (bit P pointer b (w + 0)) (rw z at (f.holds (omega arith)))
no_pointer {P} {t} {b} F C w E (suc f) l m = go (ltb f R) refl (bit P pointer b (w + suc f)) refl (λ k. no_pointer F C w E f k (omega arith))
  where
    n : ℕ
    n = element_words t (span_of t w)

    R : ℕ
    R = Rattle.model.specs.Bounded.first_below (element_words t (span_of t w)) (λ k. not (bit P pointer b (w + k)))

    go : (c : Bool) → ltb f R ≡ c → (d : Bool) → bit P pointer b (w + suc f) ≡ d → (R ≤ f → bit P pointer b (w + f) ≡ false) → bit P pointer b (w + suc f) ≡ false
    go c e false x ih = x
    go true e true x ih =
        let q : R ≡ suc f = omega (arith, ltb-true f R e) in
        borrow.Author.Tests.not-true (bit P pointer b (w + suc f)) (rw q at ((first_props n (λ k. not (bit P pointer b (w + k)))).holds (omega arith)))
    go false e true x ih =
        let o = (own_word F w (suc f) E m).0 in
        let z : w + suc f - 1 ≡ w + f = omega arith in
        absurd (true≢false (sym (of_true _ (rw z at (C.unbroken (w + suc f) (is_true _ x) (omega (arith, o))))) ∙ ih (borrow.Author.Tests.ltb-false f R e)))

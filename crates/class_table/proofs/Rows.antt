-- The rows of the class table as facts, from one test that antt computes over all 66, and the elements of a span in words.
use Prim.Native.Nat.{ℕ, ◌+◌, ◌-◌, ◌*◌, ◌/◌, ◌%◌, ◌<◌, ◌≤◌}
use mathlib.Core.Bool.{Bool, true, ◌&&◌}
use mathlib.Core.Path.{◌≡◌, refl, sym, ◌∙◌, ap}
use native.Mathlib.Nat.{mul-div-mul_left}
use native.Mathlib.Omega.{arith}
use lib.Dec.{T}
use borrow.Author.Tests.{ne_eqb}
use Rattle.std.specs.Prelude.{◌==◌}
use Rattle.model.specs.Bounded.{◌<?◌, all_below}
use Rattle.model.specs.Memory.{page_bytes, page_words, word_bytes}
use Rattle.model.specs.Classes.{rows, class_rows, element_bytes, span_bytes, element_words_of, elements_of, class_pages}
use Rattle.model.proofs.Tests.{is_true, and_iff, eqb_iff, ltb_iff}
use Rattle.model.proofs.Bounded.{all_at}
use Rattle.model.proofs.Classes.{small_words}

-- what holds of the row of class c
pub record RowFacts (c : ℕ) : Type 0 where
  pub some : 0 < element_bytes c
  pub words : element_bytes c % word_bytes ≡ 0
  pub whole : span_bytes c ≡ page_bytes * class_pages c

-- .. as one test
row_test : ℕ → Bool
row_test c =
    0 <? element_bytes c && element_bytes c % word_bytes == 0 && span_bytes c == page_bytes * class_pages c

row_tests : all_below rows (λ k. row_test (k + 1)) ≡ true
unfolding row_test class_pages element_bytes span_bytes class_rows all_below
row_tests = refl

pub row_facts : (c : ℕ) → 0 < c → c ≤ rows → RowFacts c
unfolding row_test
row_facts c h l =
    let e : (c - 1) + 1 ≡ c = omega arith in
    let t : T (row_test c) = rw e at (is_true _ (all_at rows (λ k. row_test (k + 1)) row_tests (c - 1) (omega arith))) in
    let f = simp (and_iff, ltb_iff, eqb_iff) at t in
    record { some = f.0.0; words = f.0.1; whole = f.1 }

-- the elements of a span: the words of its pages by those of an element
elements_by_words : (c : ℕ) → 0 < c → c ≤ rows → elements_of c ≡ page_words * class_pages c / (element_bytes c / word_bytes)
elements_by_words c h l =
    let r = row_facts c h l in
    let s : span_bytes c ≡ word_bytes * (page_words * class_pages c) = omega (arith, r.whole) in
    let e : element_bytes c ≡ word_bytes * (element_bytes c / word_bytes) = omega (arith, r.words) in
    in_bytes ∙ ap (λ x. x / element_bytes c) s ∙ ap (λ x. word_bytes * (page_words * class_pages c) / x) e
    ∙ mul-div-mul_left (page_words * class_pages c) (element_bytes c / word_bytes) (omega arith)
  where
    in_bytes : elements_of c ≡ span_bytes c / element_bytes c
    in_bytes = unfold elements_of in rw (ne_eqb c 0 (omega arith))

-- what a row of w words and g pages says of a span's elements
pub row_layout : (c n : ℕ) {w g : ℕ} → 0 < c → c ≤ rows → w ≡ element_bytes c / word_bytes → g ≡ class_pages c → (w ≡ element_words_of c n) × (page_words * g / w ≡ elements_of c)
row_layout c n h l e f = (e ∙ sym (small_words c n (λ z. omega arith)), rw (e, f) (sym (elements_by_words c h l)))

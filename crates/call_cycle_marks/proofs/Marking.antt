-- The lowest gray record, its pointer words, and the outcome of a mark step.
use Prim.Native.Nat.{ℕ, ◌+◌, ◌-◌, ◌*◌, ◌<◌, ◌≤◌}
use mathlib.Core.Bool.{false, not}
use mathlib.Core.List.{List}
use mathlib.Core.Path.{◌≡◌, sym, ◌∙◌, ap}
use native.Mathlib.Omega.{arith}
use lib.Dec.{T}
use lib.ListN.{length, get_or}
use borrow.Author.Tests.{le-ltb, lt-ltb}
use Rattle.std.specs.List.{between}
use Rattle.model.specs.Bounded.{first_below}
use Rattle.model.specs.Memory.{Heap, lent, words, address_of, max_pages, bitmap_words, mark, page_words, gray_part, pointer_part}
use Rattle.model.specs.Bitmaps.{bit_at, with_bit, put_bit, is, allocated, gray, pointer}
use Rattle.model.specs.Classes.{element_words_of}
use Rattle.model.specs.Spans.{element_words, span_of, pointer_count, kept}
use Rattle.model.specs.Answers.{Meets}
use Rattle.model.specs.Checks.{phase_refusal}
use Rattle.model.specs.Cycle.{first_gray, scan_record, mark_step}
use Rattle.model.specs.declared.Answer.TheVariants.{Value}
use Rattle.model.proofs.Tests.{is_true}
use Rattle.model.proofs.Bounded.{first_props, first_cong}
use Rattle.model.proofs.Bitmaps.{bit_in_lem}
use Rattle.model.proofs.Checks.{passes}
use Rattle.model.proofs.Outcomes.{meets}
use Rattle.model.proofs.Spans.{whole}
use Rattle.model.specs.Facts.{Sized, Audited, Element}
use Rattle.model.specs.Lent.{Mapped}
use Rattle.model.proofs.Facts.{not_unswept, pointer_word}
use Rattle.model.proofs.Lent.{audited_mapped}
use Rattle.bitmap.proofs.Found.{found_some, found_none}
use Rattle.page_table.specs.Span.{Reads}
use Rattle.page_table.specs.declared.Span.{Span}
use Rattle.shading.specs.Needs.{ShadableSlice, ShadesAll}
use Rattle.shading.proofs.References.{reference_named, part_shadable}
use Rattle.call_cycle_marks.specs.Needs.{Gray}

-- the search over the gray part of the bitmaps
pub gray_search : (p : ℕ) (a t b r : List ℕ) → let grays = gray_part * (page_words * p) in
    first_gray (lent p a t b r) ≡ first_below (grays + page_words * p - grays) (λ k. bit_at b (grays + k))
unfolding first_gray
gray_search p a t b r =
    let grays = gray_part * (page_words * p) in
    let n : grays + page_words * p - grays ≡ page_words * p = omega arith in
    rw n (first_cong (page_words * p) (is gray (lent p a t b r)) (λ k. bit_at b (grays + k)) (bit_in_lem (page_words * p) gray b))

pub ruleset searches = (gray_search, found_some, found_none)

-- the search for the end of the run of pointer bits of an element of `size` words
pub pointer_search : (p : ℕ) (b : List ℕ) (w size : ℕ) → w + size ≤ page_words * p → (a t r : List ℕ) → size ≡ element_words t (span_of t w) → let first = pointer_part * (page_words * p) + w in
    first_below (first + size - first) (λ k. not (bit_at b (first + k))) ≡ pointer_count (lent p a t b r) w
pointer_search p b w size l a t r e =
    let first = pointer_part * (page_words * p) + w in
    let n : first + size - first ≡ size = omega arith in
    rw (n, e) (first_cong (element_words t (span_of t w)) (λ k. not (bit_at b (first + k))) (λ k. not (is pointer (lent p a t b r) (w + k)))
    (λ k h. ap not (ap (bit_at b) (omega arith) ∙ sym (bit_in_lem (page_words * p) pointer b (w + k) (omega arith)))))

-- where the element at word w lies, by its span as it was read
pub record Lies (p : ℕ) (t b : List ℕ) (w size : ℕ) : Type 0 where
  pub few : p ≤ max_pages
  pub bits : length b ≡ bitmap_words * p
  pub inside : w + size ≤ page_words * p
  pub words : size ≡ element_words t (span_of t w)

pub lies : {p : ℕ} {t b : List ℕ} {w : ℕ} {span : Span} → Mapped p t b × Element t w → Reads t (span_of t w) span → (size : ℕ) → size ≡ element_words_of span.class span.pages → Lies p t b w size
lies {p} {t} {b} {w} R S size e =
    let same : size ≡ element_words t (span_of t w) = rw (S.pages, S.class) at e in
    record { few = R.0.few; bits = R.0.bits; inside = omega (arith, (whole R.0.spans w R.1).1); words = same }

-- a gray record of an audited heap
module _ {h : Heap} {w : ℕ} (G : Gray h w) where
  abbrev A : Audited h
  A = G.audited

  gray_allocated : T (is allocated h w)
  gray_allocated = A.bits.marks w (A.bits.grays w (is_true _ G.grays)).0

  pub gray_record : Mapped h.pages h.table h.bits × Element h.table w
  gray_record = (audited_mapped A, A.bits.element w gray_allocated)

  gray_kept : T (kept h w)
  gray_kept = rw (not_unswept A.spans A.phases (omega (arith, G.marking)) (span_of h.table w)) gray_allocated

  -- where it lies
  pub record Place : Type 0 where
    pub sized : Sized h
    pub word : w < page_words * h.pages
    pub pointers : w + pointer_count h w ≤ page_words * h.pages

  pub gray_place : Place
  gray_place =
      let W = whole A.spans w gray_record.1 in
      let R = first_props (element_words h.table (span_of h.table w)) (λ f. not (is pointer h (w + f))) in
      record { sized = A.sized; word = omega (arith, W); pointers = omega (arith, W, R.within) }

  pub gray_words : (b : List ℕ) → length b ≡ length h.bits → (j : ℕ) → j ≤ w + pointer_count h w → ShadableSlice h.pages h.table b (between w j h.arena)
  gray_words b e j m =
      part_shadable (record { few = A.sized.high; table = A.sized.table; bits = e ∙ A.sized.bits }) h.arena w j (omega (arith, gray_place))
      (λ k i l d.
      let n : w + (k - w) ≡ k = omega arith in
      reference_named A.spans A.bits (get_or h.arena k 0) (rw n at (pointer_word A w gray_allocated gray_kept (k - w) (omega arith)).1) d)

-- the gray bit goes, and the pointer words are shaded
pub record_scanned : (h : Heap) (w : ℕ) {n m : ℕ} {b b' : List ℕ} → n ≡ pointer_count h w → b ≡ with_bit (gray_part * (page_words * h.pages) + w) false h.bits →
    ShadesAll h.pages h.table n (λ i. get_or h.arena (w + i) 0) b m b' → b' ≡ scan_record w h
unfolding scan_record put_bit
record_scanned h w e f S = S.bits ∙ rw (e, f)

-- the lowest gray record, at word w, is gray
pub first_is_gray : {h : Heap} → Audited h → 0 ≡ phase_refusal h mark → {w : ℕ} → w ≡ first_gray h → w < words h → Gray h w
unfolding first_gray
first_is_gray {h} A m e l = rw e (record { audited = A; marking = simp passes at (sym m); grays = (first_props (words h) (is gray h)).holds (rw e at l) })

-- the outcome of a mark step: none is gray, or the lowest gray record is scanned
module _ (h : Heap) (m : 0 ≡ phase_refusal h mark) where
  pub step_none : first_gray h ≡ words h → Meets (mark_step h) (Value 0) h.arena h.table h.bits h.roots
  unfolding mark_step
  step_none e = meets {p = h.pages} (rw (← m, e, le-ltb (words h) (words h) (omega arith)))

  pub step_done : {w : ℕ} → w ≡ first_gray h → w < words h → {v : ℕ} {b : List ℕ} → v ≡ address_of w → b ≡ scan_record w h → Meets (mark_step h) (Value v) h.arena h.table b h.roots
  unfolding mark_step
  step_done {w} e l f g = meets {p = h.pages} (rw (← m, f, g, ← e, lt-ltb w (words h) l))

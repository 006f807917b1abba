-- What the calls leave, part by part: the bits after a birth and after a sweep, and the span that has room. Demand 3 cites these laws; the
-- barrier, an allocation, a start, a scan and a swept page table it unfolds where it needs them. A wrong rule is refused in proofs/Tempting.antt, at the
-- fact that it loses; where that fact says all of one part, it stands in the law here.
use Prim.Native.Nat.{ℕ, ◌+◌, ◌*◌, ◌/◌, ◌%◌, ◌<◌, ◌≤◌}
use mathlib.Core.Bool.{Bool, true, false, not, cond, ◌&&◌, and-false, true≢false}
use mathlib.Core.List.{List}
use mathlib.Core.Path.{◌≡◌, refl, sym, ◌∙◌, ap}
use native.Mathlib.Omega.{arith}
use lib.ListN.{length}
use lib.Dec.{T, eqb}
use borrow.Author.Tests.{not-true, eqb-true}
use Rattle.model.specs.Bounded.{first_below}
use Rattle.model.specs.Memory.{Heap, phase, mark, page_words, unswept_flag}
use Rattle.model.specs.Classes.{class_of, kind_of, pages_for, elements_of, element_words_of}
use Rattle.model.specs.Bitmaps.{Part, allocated, marked, gray, pointer, bit_in, is}
use Rattle.model.specs.Spans.{page_count, kind_entry, elements, element_words, element_start, element_number}
use Rattle.model.specs.Allocate.{free_element, has_room, new_bits}
use Rattle.model.specs.Cycle.{swept_bits}
use Rattle.model.specs.Facts.{IsSpan, Sized, Audited, bit}
use Rattle.model.proofs.Tests.{of_true, cond_same}
use Rattle.model.proofs.Rules.{tests}
use Rattle.model.proofs.Bounded.{within, first_props}
use Rattle.model.proofs.Bitmaps.{same_part, part_length, run_length_lem}
use Rattle.model.proofs.Classes.{Takes, words_any}
use Rattle.model.proofs.Spans.{start_in}
use Rattle.model.proofs.Tempting.{put_at, run_at, born_marked, inside, swept_allocated, swept_pointer}

-- what is read of one of two bitmaps; a choice that makes no difference goes
bit_cond : (n : ℕ) (q : Part) (c : Bool) (x y : List ℕ) (v : ℕ) → bit_in n q (cond c x y) v ≡ cond c (bit_in n q x v) (bit_in n q y v)
bit_cond n q true x y v = refl
bit_cond n q false x y v = refl

length_cond : (c : Bool) (x y : List ℕ) → length (cond c x y) ≡ cond c (length x) (length y)
length_cond true x y = refl
length_cond false x y = refl

ruleset either = (bit_cond, length_cond, cond_same, and-false)

ruleset lengths = (part_length, run_length_lem)

-- the bits after the birth of a record of p pointers at word w
module _ (h : Heap) (w p : ℕ) (Z : Sized h) (hw : w < page_words * h.pages) (l : w + p ≤ page_words * h.pages) where
  pub new_length : length (new_bits h w p) ≡ length h.bits
  unfolding new_bits
  new_length = simp (either, lengths)

  pub new_at : (q : Part) (v : ℕ) → bit h.pages q (new_bits h w p) v ≡
      cond (eqb (phase h) mark && (same_part q marked && eqb v w)) true
      (cond (same_part q pointer && within w p v) true (cond (same_part q allocated && eqb v w) true (is q h v)))
  unfolding new_bits
  new_at marked v = go (eqb (phase h) mark) refl
    where
      go : (m : Bool) → eqb (phase h) mark ≡ m → bit h.pages marked (new_bits h w p) v ≡ cond (m && eqb v w) true (is marked h v)
      go true e = born_marked h Z (eqb-true (phase h) mark e) w p hw l v
      go false e = simp (e, put_at h Z, run_at h Z, lengths)
  new_at allocated v = simp (either, put_at h Z, run_at h Z, lengths)
  new_at gray v = simp (either, put_at h Z, run_at h Z, lengths)
  new_at pointer v = simp (either, put_at h Z, run_at h Z, lengths)

-- the bits after the span at page s was swept
module _ (h : Heap) (Z : Sized h) (s : ℕ) (l : s + page_count h.table s ≤ h.pages) where
  pub swept_length : length (swept_bits h s) ≡ length h.bits
  unfolding swept_bits
  swept_length = simp run_length_lem

  pub swept_at : (q : Part) (v : ℕ) → let d = within (page_words * s) (page_words * page_count h.table s) v in bit h.pages q (swept_bits h s) v ≡
      cond (same_part q marked && d) false (cond (same_part q allocated && d) (is marked h v)
      (cond (same_part q pointer && d) (is pointer h v && is marked h (start_in h.table s v)) (is q h v)))
  unfolding swept_bits
  swept_at allocated v = swept_allocated h Z s l v
  swept_at pointer v = swept_pointer h Z s l v
  swept_at marked v = let i = inside h Z s l in simp (run_at h Z, run_length_lem)
  swept_at gray v = let i = inside h Z s l in simp (run_at h Z, run_length_lem)

-- a span with room for a kind: its entry is the kind, with no flag, and an element is free
pub room_is : (h : Heap) (kind s : ℕ) → T (has_room h kind s) → IsSpan h.table s × (kind_entry h.table s ≡ kind) × (free_element h s < elements h.table s)
room_is h kind s ok = let x = simp tests at ok in omega arith

-- a large span has no free element: its one element is allocated
no_large : {h : Heap} → Audited h → (r : ℕ) → IsSpan h.table r → kind_entry h.table r % unswept_flag / 2 ≡ 0 → free_element h r < elements h.table r → ⊥
unfolding free_element elements_of
no_large {h} F r e c l =
    let f = F.occupied r e in
    let E = F.bits.element f.0 f.1 in
    let n = rw (f.2, c) at E.lies.number in
    let i = rw f.2 at E.first in
    let z : element_number h.table r f.0 ≡ 0 = omega arith in
    let one : elements h.table r ≡ 1 = rw c in
    let y : first_below (elements h.table r) (λ k. not (is allocated h (element_start h.table r k))) ≡ 0 = omega arith in
    let q = (first_props (elements h.table r) (λ k. not (is allocated h (element_start h.table r k)))).holds l in
    let a = not-true (is allocated h (element_start h.table r 0)) (rw y at q) in
    true≢false (sym (of_true _ f.1) ∙ ap (is allocated h) (sym (rw z at i)) ∙ a)

-- the elements of a span of the kind, if one is free, have the words that the size takes
pub room_words : {h : Heap} → Audited h → (size p : ℕ) → Takes size p → (r : ℕ) → IsSpan h.table r → kind_entry h.table r ≡ kind_of size p →
    free_element h r < elements h.table r → element_words_of (class_of size) (pages_for size) ≡ element_words h.table r
room_words {h} F size p K r i e l =
    let c : kind_entry h.table r % unswept_flag / 2 ≡ class_of size = rw e (omega (arith, K.kind, K.class)) in
    rw c (words_any (class_of size) (pages_for size) (page_count h.table r) (λ z. no_large F r i (c ∙ z) l))

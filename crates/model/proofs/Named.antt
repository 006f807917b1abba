-- What a value names (`record_of`): a reference names a kept element, which lies in the arena; the address of a kept element is a reference, and a
-- reference stays one where what is kept stays so. Whoever changes `record_of` proves these again.
use Prim.Native.Nat.{ℕ, ◌*◌, ◌<◌}
use mathlib.Core.Bool.{Bool, true, false, cond}
use mathlib.Core.List.{List}
use mathlib.Core.Logic.{inl, inr, ◌≢◌}
use mathlib.Core.Path.{◌≡◌}
use native.Mathlib.Omega.{arith}
use lib.Dec.{T}
use Rattle.model.specs.Memory.{page_words, address_of}
use Rattle.model.specs.Bitmaps.{allocated, marked}
use Rattle.model.specs.Spans.{record_of}
use Rattle.model.specs.Facts.{bit, unswept_at, kept_at, Bits, Reference}
use Rattle.model.proofs.Bitmaps.{bit_inside}

-- the address of a word names that word
pub record_address : (t : List ℕ) (w : ℕ) → record_of t (address_of w) ≡ w
record_address t w = omega arith

-- what is kept is allocated
pub kept_allocated_lem : {P : ℕ} {t b : List ℕ} → Bits P t b → (w : ℕ) → T (kept_at P t b w) → T (bit P allocated b w)
kept_allocated_lem {P} {t} {b} C w = go (unswept_at t w)
  where
    go : (c : Bool) → T (cond c (bit P marked b w) (bit P allocated b w)) → T (bit P allocated b w)
    go true m = C.marks w m
    go false a = a

-- a reference that is not nil names a kept element, and so a word of the arena
pub kept_element : {P : ℕ} {t b : List ℕ} → Bits P t b → (v : ℕ) → v ≢ 0 → Reference P t b v → T (bit P allocated b (record_of t v)) × T (kept_at P t b (record_of t v)) × (record_of t v < page_words * P)
kept_element C v d (inl e) = absurd (d e)
kept_element {P} {t} {b} C v d (inr f) =
    let a = kept_allocated_lem C (record_of t v) f.1 in
    (a, f.1, bit_inside (page_words * P) allocated b (record_of t v) a)

-- nil, or the address of a word of the arena
abbrev pub There : ℕ → List ℕ → ℕ → Type 0
There P t v = v ≢ 0 → record_of t v < page_words * P

pub reference_there : {P : ℕ} {t b : List ℕ} → Bits P t b → (v : ℕ) → Reference P t b v → There P t v
reference_there C v r d = (kept_element C v d r).2

-- the address of a kept element is a reference
pub address_refers : (P : ℕ) (t b : List ℕ) (w : ℕ) → T (kept_at P t b w) → Reference P t b (address_of w)
address_refers P t b w k = let e = record_address t w in inr (rw e, rw e k)

-- a reference stays one, in another page table too, where what is kept stays kept
pub refers_over : (P : ℕ) (t u b c : List ℕ) → ((w : ℕ) → T (kept_at P t b w) → T (kept_at P u c w)) → (v : ℕ) → Reference P t b v → Reference P u c v
refers_over P t u b c f v (inl e) = inl e
refers_over P t u b c f v (inr r) = inr (r.0, f (record_of t v) r.1)

-- Kept elements: the bit that says it, and that they lie in the arena.
use Prim.Native.Nat.{ℕ, ◌+◌, ◌*◌, ◌<◌}
use mathlib.Core.Bool.{Bool, true, false, cond}
use mathlib.Core.List.{List}
use mathlib.Core.Path.{◌≡◌, sym}
use native.Mathlib.Omega.{arith}
use lib.Dec.{T, leb}
use Rattle.model.specs.Memory.{page_words, unswept_flag, marked_part}
use Rattle.model.specs.Bitmaps.{bit_at, allocated, marked}
use Rattle.model.specs.Spans.{kind_entry, is_unswept, span_of}
use Rattle.model.proofs.Bitmaps.{bit_in_lem, bit_inside}
use Rattle.model.specs.Facts.{Spans, bit, kept_at, unswept_at}
use Rattle.model.specs.Lent.{AllSwept}
use Rattle.model.proofs.Facts.{swept_all}
use Rattle.audit_references.specs.References.{kept_from}

-- the bit that says whether an element is kept
pub kept_is : (p : ℕ) (t b : List ℕ) (s w from : ℕ) → span_of t w ≡ s → from ≡ kept_from p (is_unswept t s) → w < page_words * p → bit_at b (from + w) ≡ kept_at p t b w
kept_is p t b s w from e f l = rw (f, ← e) (go (leb unswept_flag (kind_entry t (span_of t w))))
  where
    go : (u : Bool) → bit_at b (cond u (marked_part * (page_words * p)) 0 + w) ≡ cond u (bit p marked b w) (bit p allocated b w)
    go true = sym (bit_in_lem (page_words * p) marked b w l)
    go false = let z : 0 + w ≡ w = omega arith in rw z (sym (bit_in_lem (page_words * p) allocated b w l))

-- .. which is the allocated one where no span is unswept
pub kept_told : {p : ℕ} {t : List ℕ} → Spans p t → AllSwept t → (b : List ℕ) (w : ℕ) → w < page_words * p → bit_at b w ≡ kept_at p t b w
kept_told {p} {t} F Q b w l = rw (swept_all F Q (span_of t w)) (sym (bit_in_lem (page_words * p) allocated b w l))

-- what is kept lies in the arena
pub kept_inside : (p : ℕ) (t b : List ℕ) (w : ℕ) → T (kept_at p t b w) → w < page_words * p
kept_inside p t b w = go (unswept_at t w)
  where
    go : (u : Bool) → T (cond u (bit p marked b w) (bit p allocated b w)) → w < page_words * p
    go true x = bit_inside (page_words * p) marked b w x
    go false x = bit_inside (page_words * p) allocated b w x

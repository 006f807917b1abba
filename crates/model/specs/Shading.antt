-- Shading and the barrier. Shading changes the bitmaps alone: here they go in and come out, for a heap of P pages and page table t.
use Rattle.std.specs.Prelude.{ℕ, ◌*◌, Bool, true, ◌&&◌, not, List, ◌==◌, if◌then◌else◌}
use Rattle.model.specs.Bounded.{count_below, fold_below}
use Rattle.model.specs.Memory.{Heap, page_words, nil, phase, mark}
use Rattle.model.specs.Bitmaps.{bit_in, put_bit, marked, gray}
use Rattle.model.specs.Spans.{is_scan, span_of, record_of}

-- the value names a record that is not marked
abbrev pub is_white : ℕ → List ℕ → ℕ → List ℕ → Bool
is_white P t v b = not (v == nil) && not (bit_in (page_words * P) marked b (record_of t v))

-- "Shading nil or a marked record does nothing; a white record is marked, and made gray if its span is scan."
unfoldable pub shade : ℕ → List ℕ → ℕ → List ℕ → List ℕ
shade P t v b =
    let w = record_of t v in
    let black = put_bit (page_words * P) marked w true b in
    if is_white P t v b then (if is_scan t (span_of t w) then put_bit (page_words * P) gray w true black else black)
    else b

-- the first n of the values shaded, in order
unfoldable pub shade_all : ℕ → List ℕ → ℕ → (ℕ → ℕ) → List ℕ → List ℕ
shade_all P t n value b = fold_below n (λ i. shade P t (value i)) b

-- how many mark bits that turns on: the values that are white when their turn comes
unfoldable pub shade_count : ℕ → List ℕ → ℕ → (ℕ → ℕ) → List ℕ → ℕ
shade_count P t n value b = count_below n (λ i. is_white P t (value i) (shade_all P t i value b))

-- "in the mark phase, a store to a record or a global first shades the old value, then the new"
unfoldable pub barrier : Heap → ℕ → ℕ → List ℕ
barrier h old new =
    if phase h == mark then shade h.pages h.table new (shade h.pages h.table old h.bits) else h.bits

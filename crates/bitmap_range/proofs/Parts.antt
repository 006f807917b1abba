-- The parts of the bitmaps as ranges of bits of the whole list: a run of bits of one part, a run read from another part, the bits of one part
-- that are moved to another, and a count.
use Prim.Native.Nat.{ℕ, ◌+◌, ◌-◌, ◌*◌, ◌<◌, ◌≤◌}
use mathlib.Core.Bool.{Bool, false}
use mathlib.Core.List.{List}
use mathlib.Core.Path.{◌≡◌, sym, ◌∙◌, ap}
use native.Mathlib.Omega.{arith}
use Rattle.model.specs.Bounded.{write_run, count_below}
use Rattle.model.specs.Memory.{word_bits, marked_part}
use Rattle.model.specs.Bitmaps.{bit_at, with_bit, Part, allocated, marked, gray, pointer, place, bit_in, put_bit, put_bits}
use Rattle.model.proofs.Bounded.{count_cong}
use Rattle.model.proofs.Bitmaps.{Four, bit_in_lem, part_run}
use Rattle.bitmap_range.proofs.Runs.{writes_cong, run_shift}

-- the words of a part follow each other
pub place_from : (n : ℕ) (q : Part) (w : ℕ) → place n q w ≡ place n q 0 + w
place_from n allocated w = omega arith
place_from n marked w = omega arith
place_from n gray w = omega arith
place_from n pointer w = omega arith

-- bits of a part that are put are bits of the list; constant values read the same on both sides
pub part_as_bits : (n : ℕ) (q : Part) (w k : ℕ) (value : ℕ → Bool) (b : List ℕ) →
    put_bits n q w k value b ≡ write_run with_bit (place n q w) k (λ i. value (i - place n q 0)) b
unfolding put_bit
part_as_bits n q w k value b =
    run_shift (put_bit n q) with_bit (place n q 0) (λ i y a. ap (λ x. with_bit x y a) (place_from n q i)) w k value b
    ∙ ap (λ x. write_run with_bit x k (λ i. value (i - place n q 0)) b) (sym (place_from n q w))

pub part_constant : (n : ℕ) (q : Part) (w k : ℕ) (on : Bool) (b : List ℕ) → put_bits n q w k (λ i. on) b ≡ write_run with_bit (place n q w) k (λ i. on) b
part_constant n q w k on b = part_as_bits n q w k (λ i. on) b

-- values that are the bits of part r of a list b
pub part_from_part : (n : ℕ) (q r : Part) (w k : ℕ) (b c : List ℕ) → w + k ≤ n →
    put_bits n q w k (bit_in n r b) c ≡ write_run with_bit (place n q w) k (λ i. bit_at b (i - place n q w + place n r w)) c
part_from_part n q r w k b c h =
    part_as_bits n q w k (bit_in n r b) c
    ∙ writes_cong with_bit (place n q w) k _ _ c (λ i l m.
    let x = i - place n q 0 in
    let inside : x < n = omega (arith, place_from n q w) in
    bit_in_lem n r b x inside ∙ ap (bit_at b) (omega (arith, place_from n q w, place_from n r w, place_from n r x)))

-- The bits of part r move to part q, and go in part r: as `move_range` leaves the list c, where the k bits fill m words of the bitmaps in both
-- parts. The values may be read in an earlier list b that has the same bits there.
module _ (n : ℕ) (q r : Part) (w k : ℕ) (b c : List ℕ) (h : w + k ≤ n) (same : (x : ℕ) → w ≤ x → x < w + k → bit_in n r b x ≡ bit_in n r c x) where
  pub part_moved : (to from m : ℕ) → place n q w ≡ to * word_bits → place n r w ≡ from * word_bits → k ≡ m * word_bits →
      put_bits n r w k (λ i. false) (put_bits n q w k (bit_in n r b) c)
      ≡ write_run with_bit (from * word_bits) (m * word_bits) (λ i. false) (write_run with_bit (to * word_bits) (m * word_bits) (λ i. bit_at c (i - to * word_bits + from * word_bits)) c)
  part_moved to from m e f g =
      rw (← e, ← f, ← g) (part_constant n r w k false _
      ∙ ap (write_run with_bit (place n r w) k (λ i. false)) (writes_cong (put_bit n q) w k (bit_in n r b) (bit_in n r c) c same ∙ part_from_part n q r w k c c h))

-- as the sweep says it: the pointer bits of the run change, then allocated becomes marked and marks go
pub swept_parts : (n w k : ℕ) (g : ℕ → Bool) (b : List ℕ) → w + k ≤ n → Four n b → (to from m : ℕ) → w ≡ to * word_bits → marked_part * n + w ≡ from * word_bits → k ≡ m * word_bits →
    (let c = put_bits n pointer w k g b in
    put_bits n marked w k (λ i. false) (put_bits n allocated w k (bit_in n marked b) c)
    ≡ write_run with_bit (from * word_bits) (m * word_bits) (λ i. false) (write_run with_bit (to * word_bits) (m * word_bits) (λ i. bit_at c (i - to * word_bits + from * word_bits)) c))
swept_parts n w k g b h f to from m =
    part_moved n allocated marked w k b (put_bits n pointer w k g b) h (λ x l u. sym (part_run n pointer w k g b h f marked x)) to from m

-- the bits of a part that are on
pub part_count : (n : ℕ) (q : Part) (w k : ℕ) (b : List ℕ) → w + k ≤ n →
    count_below k (λ j. bit_in n q b (w + j)) ≡ count_below k (λ j. bit_at b (place n q w + j))
part_count n q w k b h =
    count_cong k _ _ (λ j l. bit_in_lem n q b (w + j) (omega arith) ∙ ap (bit_at b) (omega (arith, place_from n q w, place_from n q (w + j))))

-- The words that the searches go by: the bits that are allocated and not marked, and the clear bits.
use Prim.Native.Nat.{ℕ, ◌+◌, ◌-◌, ◌*◌, ◌^◌, ◌<◌}
use mathlib.Core.Bool.{Bool, not, cond}
use mathlib.Core.List.{List}
use mathlib.Core.Path.{◌≡◌, ◌∙◌, ap}
use native.Mathlib.Omega.{arith}
use lib.Bits.{bit_and}
use lib.ListN.{get_or}
use Rattle.model.specs.Memory.{page_words, word_bits, page_blocks, marked_part}
use Rattle.model.specs.Bitmaps.{bit_at, allocated, marked}
use Rattle.model.proofs.Bitmaps.{bit_in_lem}
use Rattle.bitmap.proofs.Scan.{WordOf, word_at, word_and, word_not}
use Rattle.bitmap_search.specs.Freed.{is_freed}

-- bitmaps of p pages, in which the marked part starts at word `marks`
pub freed_word : (p : ℕ) (b : List ℕ) (marks at w : ℕ) → get_or b (marks + at) 0 < 2 ^ 64 → marks ≡ marked_part * (page_blocks * p) → at < page_blocks * p →
    w ≡ bit_and (get_or b at 0) ((2 ^ 64 - 1) - get_or b (marks + at) 0) → WordOf at (is_freed p b) w
freed_word p b marks at w fit e h v j l =
    let i = at * word_bits + j in
    let mark : ℕ → Bool = λ i. bit_at b (marked_part * (page_words * p) + i) in
    let m : WordOf at mark (get_or b (marks + at) 0) =
    λ k q. word_at b (marks + at) k q ∙ ap (λ x. cond (bit_at b x) 1 0) (omega arith) in
    rw (v, bit_in_lem (page_words * p) allocated b i (omega arith), bit_in_lem (page_words * p) marked b i (omega arith))
    (word_and at (bit_at b) (λ i. not (mark i)) _ _ (word_at b at) (word_not at mark _ fit m) j l)

pub clear_word : (ws : List ℕ) (at w : ℕ) → get_or ws at 0 < 2 ^ 64 → w ≡ (2 ^ 64 - 1) - get_or ws at 0 → WordOf at (λ i. not (bit_at ws i)) w
clear_word ws at w fit v j l = rw v (word_not at (bit_at ws) _ fit (word_at ws at) j l)

-- The masks of a block, and the bits of its four words: as bits of arena words.
use Prim.Native.Nat.{ℕ, ◌+◌, ◌-◌, ◌*◌, ◌/◌, ◌%◌, ◌^◌, ◌<◌}
use mathlib.Core.Bool.{Bool, true, false, not, cond, ◌&&◌}
use mathlib.Core.List.{List}
use mathlib.Core.Path.{◌≡◌, refl, sym, ◌∙◌, ap}
use native.Mathlib.Omega.{arith}
use lib.Bits.{bit_or, or_lt}
use lib.Dec.{eqb, ltb, leb}
use lib.ListN.{get_or}
use borrow.Author.Tests.{leb-true, leb-false, lt-ltb, le-ltb}
use Rattle.model.specs.Memory.{page_words, word_bits, page_blocks, marked_part, gray_part, pointer_part}
use Rattle.model.specs.Bounded.{all_below}
use Rattle.model.specs.Bitmaps.{bit_of, bit_at, Part, allocated, marked, gray, pointer, place}
use Rattle.model.proofs.Bitmaps.{bit_none, bit_in_lem, bit_shifted, bit_all}
use Rattle.model.specs.Facts.{bit}
use Rattle.audit_blocks.specs.Block.{on}
use Rattle.audit_blocks.proofs.Masks.{on_or, on_not, zero_word, not_or, all_cong}
use Rattle.audit_bits.specs.Rules.{bare}
use Rattle.audit_bits.specs.Block.{clear}
use Rattle.audit_bits.specs.Blocks.{said_of, block_at}
use Rattle.audit_bits.specs.declared.Block.{Block}
use Rattle.audit_bits.specs.declared.Blocks.{Blocks}

-- the words below one
pub on_below : (left j : ℕ) → j < 64 → on ((2 ^ 64 - 1) - (2 ^ 64 - 1) * 2 ^ left % 2 ^ 64) j ≡ ltb j left
on_below left j l = rw (on_not ((2 ^ 64 - 1) * 2 ^ left % 2 ^ 64) j (omega arith) l, bit_shifted (2 ^ 64 - 1) 64 left j l) (go (leb left j) refl)
  where
    go : (b : Bool) → leb left j ≡ b → not (eqb (cond b (bit_of (2 ^ 64 - 1) (j - left)) 0) 1) ≡ ltb j left
    go true p = rw (bit_all 64 (j - left) (omega arith), le-ltb j left (leb-true left j p))
    go false p = rw (lt-ltb j left (leb-false left j p))

-- all of them
pub on_all : (j : ℕ) → j < 64 → on (2 ^ 64 - 1) j ≡ true
on_all j l = rw (bit_all 64 j l)

pub on_none : (j : ℕ) → on 0 j ≡ false
on_none j = rw (bit_none j)

-- a mask for all words or for none
pub on_flag : (c : Bool) (j : ℕ) → j < 64 → on (cond c (2 ^ 64 - 1) 0) j ≡ c
on_flag true j l = on_all j l
on_flag false j l = on_none j

-- a mask moved up
pub on_up : (x off j : ℕ) → j < 64 → on (x * 2 ^ off % 2 ^ 64) j ≡ (leb off j && on x (j - off))
on_up x off j l = rw (bit_shifted x 64 off j l) (go (leb off j))
  where
    go : (b : Bool) → eqb (cond b (bit_of x (j - off)) 0) 1 ≡ (b && eqb (bit_of x (j - off)) 1)
    go true = refl
    go false = refl

pub on_word : (ws : List ℕ) (i j : ℕ) → j < 64 → on (get_or ws i 0) j ≡ bit_at ws (i * word_bits + j)
unfolding bit_at
on_word ws i j l =
    let d : (i * word_bits + j) / word_bits ≡ i = omega arith in
    let m : (i * word_bits + j) % word_bits ≡ j = omega arith in
    rw (d, m)

-- the word of a part that has the bits of block `at`
module _ (P : ℕ) (b : List ℕ) (at : ℕ) (h : at < page_blocks * P) where
  pub part_on : (q : Part) (i j : ℕ) → j < 64 → place (page_words * P) q (word_bits * at + j) ≡ i * word_bits + j → on (get_or b i 0) j ≡ bit P q b (word_bits * at + j)
  part_on q i j l e = on_word b i j l ∙ ap (bit_at b) (sym e) ∙ sym (bit_in_lem (page_words * P) q b (word_bits * at + j) (omega arith))

  pub allocated_on : (j : ℕ) → j < 64 → on (get_or b at 0) j ≡ bit P allocated b (word_bits * at + j)
  allocated_on j l = part_on allocated at j l (omega arith)

  pub marked_on : (j : ℕ) → j < 64 → on (get_or b (marked_part * (page_blocks * P) + at) 0) j ≡ bit P marked b (word_bits * at + j)
  marked_on j l = part_on marked (marked_part * (page_blocks * P) + at) j l (omega arith)

  pub gray_on : (j : ℕ) → j < 64 → on (get_or b (gray_part * (page_blocks * P) + at) 0) j ≡ bit P gray b (word_bits * at + j)
  gray_on j l = part_on gray (gray_part * (page_blocks * P) + at) j l (omega arith)

  pub pointer_on : (j : ℕ) → j < 64 → on (get_or b (pointer_part * (page_blocks * P) + at) 0) j ≡ bit P pointer b (word_bits * at + j)
  pointer_on j l = part_on pointer (pointer_part * (page_blocks * P) + at) j l (omega arith)

-- the words of a block have no bit where the arena words have none
pub bare_block : (x : Blocks) (at : ℕ) → at < page_blocks * x.pages → all_below word_bits (clear (block_at x at)) ≡ all_below word_bits (λ j. said_of bare x (word_bits * at + j))
unfolding bare
bare_block x at h =
    all_cong word_bits (clear (block_at x at)) (λ j. said_of bare x (word_bits * at + j))
    (λ j l. rw (allocated_on x.pages x.bits.now at h j l, marked_on x.pages x.bits.now at h j l, gray_on x.pages x.bits.now at h j l, pointer_on x.pages x.bits.now at h j l))

-- four words joined are 0 where none of them has a bit
pub none_on : (x : Block) → x.allocated < 2 ^ 64 → x.marked < 2 ^ 64 → x.gray < 2 ^ 64 → x.pointers < 2 ^ 64 →
    eqb (bit_or (bit_or (bit_or x.allocated x.marked) x.gray) x.pointers) 0 ≡ all_below word_bits (clear x)
none_on x a m g q = zero_word _ (or_lt 64 _ _ (or_lt 64 _ _ (or_lt 64 _ _ a m) g) q) ∙ all_cong word_bits _ (clear x) (λ j l. simp (on_or, not_or))

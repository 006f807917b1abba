-- The loops over blocks: one more block, and what stands at the beginning of each block of a span.
use Prim.Native.Nat.{ℕ, ◌+◌, ◌-◌, ◌*◌, ◌/◌, ◌%◌, ◌^◌, ◌<◌, ◌≤◌}
use mathlib.Core.Bool.{Bool, true, false, cond, ◌&&◌}
use mathlib.Core.List.{List}
use mathlib.Core.Path.{◌≡◌, refl, sym, ◌∙◌, ap}
use native.Mathlib.Omega.{arith}
use native.Mathlib.Nat.{zero-mod, add-mod-mod}
use lib.Dec.{T, eqb, ltb, leb}
use lib.ListN.{get_or}
use borrow.Author.Tests.{ltb-true, ltb-false, lt-ltb, le-ltb, eqb-true, eqb-false}
use Rattle.model.specs.Memory.{word_bits, page_blocks, pointer_part}
use Rattle.model.specs.Bounded.{all_below}
use Rattle.model.specs.Bitmaps.{bit_of, pointer}
use Rattle.model.proofs.Tests.{is_true, of_true}
use Rattle.model.proofs.Bitmaps.{bit_zero}
use Rattle.model.proofs.Bounded.{all_at, all_from, all_no, some_fails}
use Rattle.model.specs.Facts.{bit}
use Rattle.bitmap.proofs.FirstFree.{starts_from}
use Rattle.audit_blocks.specs.Block.{on}
use Rattle.audit_blocks.proofs.Masks.{all_cong}
use Rattle.audit_bits.specs.Rules.{block_rule, word_rule}
use Rattle.audit_bits.specs.declared.Allowed.{Allowed}
use Rattle.audit_bits.proofs.Masks.{on_none, part_on}

-- a test of every word, block by block: k blocks passed, and one more was tested
module _ (R : ℕ → Bool) (k : ℕ) where
  pub more : {r : Bool} → ((o : ℕ) → o < word_bits * k → T (R o)) → r ≡ all_below word_bits (λ j. R (word_bits * k + j)) → r ≡ true → (o : ℕ) → o < word_bits * (k + 1) → T (R o)
  more f e p o l = go (ltb o (word_bits * k)) refl
    where
      go : (c : Bool) → ltb o (word_bits * k) ≡ c → T (R o)
      go true q = f o (ltb-true o (word_bits * k) q)
      go false q =
          let m : word_bits * k ≤ o = ltb-false o (word_bits * k) q in
          let z : word_bits * k + (o - word_bits * k) ≡ o = omega arith in
          rw z at (is_true _ (all_at word_bits (λ j. R (word_bits * k + j)) (sym e ∙ p) (o - word_bits * k) (omega arith)))

  pub fails : {r : Bool} (n : ℕ) → k < n → r ≡ all_below word_bits (λ j. R (word_bits * k + j)) → r ≡ false → false ≡ all_below (word_bits * n) R
  fails n l e p =
      let x = some_fails word_bits (λ j. R (word_bits * k + j)) (sym e ∙ p) in
      sym (all_no (word_bits * n) R (word_bits * k + x.0) (omega (arith, x.1)) x.2)

  pub passes : (n : ℕ) → n ≤ k → ((o : ℕ) → o < word_bits * k → T (R o)) → true ≡ all_below (word_bits * n) R
  passes n l f = sym (all_from (word_bits * n) R (λ o m. of_true _ (f o (omega arith))))

-- block k from block f on
pub block_from : (R : ℕ → Bool) (f k : ℕ) → all_below word_bits (λ j. R (word_bits * (f + k) + j)) ≡ all_below word_bits (λ j. R (word_bits * f + (word_bits * k + j)))
block_from R f k = all_cong word_bits (λ j. R (word_bits * (f + k) + j)) (λ j. R (word_bits * f + (word_bits * k + j))) (λ j l. ap R (omega arith))

-- what stands at the beginning of block k of the span whose first block is f
pub record Stands (P : ℕ) (b : List ℕ) (f size held : ℕ) (allowed : Allowed) (k off left before : ℕ) : Type 0 where
  pub near : off < size
  pub start : (word_bits * k + off) % size ≡ 0
  pub remains : left ≡ held - word_bits * k
  pub last : on before 0 ≡ (ltb 0 (word_bits * k) && bit P pointer b (word_bits * f + (word_bits * k - 1)))
  pub done : (o : ℕ) → o < word_bits * k → T (word_rule P b (word_bits * f) size held allowed o)

-- the highest bit of a word
top_on : (x : ℕ) → on (x / 2 ^ 63) 0 ≡ on x 63
unfolding bit_of
top_on x = ap (λ y. eqb y 1) (bit_zero (x / 2 ^ 63))

module _ (P : ℕ) (b : List ℕ) (f size held : ℕ) (allowed : Allowed) where
  pub stands_first : 0 < size → Stands P b f size held allowed 0 0 held 0
  stands_first h =
      record { near = h; start = zero-mod size; remains = omega arith; last = on_none 0; done = λ o l. absurd (omega arith) }

  module _ (mask : ℕ) (ms : (j : ℕ) → j < 64 → bit_of mask j ≡ cond (eqb (j % size) 0) 1 0) where
    on_mask : (j : ℕ) → j < 64 → on mask j ≡ eqb (j % size) 0
    on_mask j l = rw (ms j l) (go (eqb (j % size) 0))
      where
        go : (c : Bool) → eqb (cond c 1 0) 1 ≡ c
        go true = refl
        go false = refl

    module _ {k off left before : ℕ} (x : Stands P b f size held allowed k off left before) where
      inside_is : (j : ℕ) → ltb j left ≡ ltb (word_bits * k + j) held
      inside_is j = go (ltb j left) refl
        where
          go : (c : Bool) → ltb j left ≡ c → c ≡ ltb (word_bits * k + j) held
          go true p = sym (lt-ltb (word_bits * k + j) held (omega (arith, ltb-true j left p, x.remains)))
          go false p = sym (le-ltb (word_bits * k + j) held (omega (arith, ltb-false j left p, x.remains)))

      start_is : (j : ℕ) → j < 64 → (leb off j && on mask (j - off)) ≡ eqb ((word_bits * k + j) % size) 0
      start_is j l = rw (on_mask (j - off) (omega arith), starts_from size (word_bits * k) off j x.near x.start)

      follows_is : (j : ℕ) → cond (eqb j 0) (on before 0) (bit P pointer b (word_bits * (f + k) + (j - 1))) ≡ (ltb 0 (word_bits * k + j) && bit P pointer b (word_bits * f + (word_bits * k + j - 1)))
      follows_is j = go (eqb j 0) refl
        where
          go : (c : Bool) → eqb j 0 ≡ c → cond c (on before 0) (bit P pointer b (word_bits * (f + k) + (j - 1))) ≡ (ltb 0 (word_bits * k + j) && bit P pointer b (word_bits * f + (word_bits * k + j - 1)))
          go true p =
              let e : word_bits * k + j ≡ word_bits * k = omega (arith, eqb-true j 0 p) in
              rw e x.last
          go false p =
              let e : word_bits * (f + k) + (j - 1) ≡ word_bits * f + (word_bits * k + j - 1) = omega (arith, eqb-false j 0 p) in
              rw (e, lt-ltb 0 (word_bits * k + j) (omega (arith, eqb-false j 0 p)))

      pub block_words : {r : Bool} → r ≡ all_below word_bits (block_rule P b (f + k) mask off left before allowed) → r ≡ all_below word_bits (λ j. word_rule P b (word_bits * f) size held allowed (word_bits * k + j))
      block_words e = e ∙ all_cong word_bits _ (λ j. word_rule P b (word_bits * f) size held allowed (word_bits * k + j)) word
        where
          word : (j : ℕ) → j < 64 → block_rule P b (f + k) mask off left before allowed j ≡ word_rule P b (word_bits * f) size held allowed (word_bits * k + j)
          word j l =
              let e : word_bits * (f + k) + j ≡ word_bits * f + (word_bits * k + j) = omega arith in
              rw (e, start_is j l, inside_is j, follows_is j)

      pub stands_next : f + k < page_blocks * P → (r : ℕ) → r < size → (r + word_bits) % size ≡ off → {ok : Bool} →
          ok ≡ all_below word_bits (λ j. word_rule P b (word_bits * f) size held allowed (word_bits * k + j)) → ok ≡ true →
          Stands P b f size held allowed (k + 1) r (left - word_bits) (get_or b (pointer_part * (page_blocks * P) + f + k) 0 / 2 ^ 63)
      stands_next h r l o e p = record {
        near = l;
        start = again;
        remains = omega (arith, x.remains);
        last = last;
        done = more (word_rule P b (word_bits * f) size held allowed) k x.done e p;
      }
        where
          again : (word_bits * (k + 1) + r) % size ≡ 0
          again =
              let e : word_bits * (k + 1) + r ≡ word_bits * k + (r + word_bits) = omega arith in
              rw (e, ← add-mod-mod (word_bits * k) (r + word_bits) size, o) x.start

          last : on (get_or b (pointer_part * (page_blocks * P) + f + k) 0 / 2 ^ 63) 0 ≡ (ltb 0 (word_bits * (k + 1)) && bit P pointer b (word_bits * f + (word_bits * (k + 1) - 1)))
          last =
              let e : word_bits * (f + k) + 63 ≡ word_bits * f + (word_bits * (k + 1) - 1) = omega arith in
              rw (lt-ltb 0 (word_bits * (k + 1)) (omega arith), ← e) (top_on (get_or b (pointer_part * (page_blocks * P) + f + k) 0) ∙ part_on P b (f + k) h pointer (pointer_part * (page_blocks * P) + f + k) 63 (omega arith) (omega arith))

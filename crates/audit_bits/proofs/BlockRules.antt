-- A block: its tests by whole words are the rules of each of its words.
use Prim.Native.Nat.{ℕ, ◌+◌, ◌-◌, ◌*◌, ◌^◌, ◌<◌}
use mathlib.Core.Bool.{Bool, true, false, not, cond, ◌&&◌}
use mathlib.Core.Path.{◌≡◌, refl, sym, ◌∙◌}
use native.Mathlib.Omega.{arith}
use lib.Bits.{bit_and}
use lib.Dec.{T, ltb, leb}
use Rattle.model.specs.Memory.{word_bits, page_blocks}
use Rattle.model.specs.Bounded.{◌implies◌, all_below}
use Rattle.model.specs.Bitmaps.{Part, allocated, marked, gray, pointer}
use Rattle.model.proofs.Tests.{and_iff, same_test, is_true}
use Rattle.model.proofs.Bounded.{all_iff, all_from, all_at}
use Rattle.model.specs.Facts.{bit}
use Rattle.audit_blocks.specs.Block.{on, rule, pointer_rule}
use Rattle.audit_blocks.proofs.Masks.{on_and, all_cong}
use Rattle.audit_bits.specs.Rules.{bare, keeps, block_rule}
use Rattle.audit_bits.specs.Block.{clear}
use Rattle.audit_bits.specs.Blocks.{said_of, block_at}
use Rattle.audit_bits.specs.declared.Allowed.{Allowed}
use Rattle.audit_bits.specs.declared.Block.{Block}
use Rattle.audit_bits.specs.declared.Blocks.{Blocks}
use Rattle.audit_bits.proofs.Masks.{on_flag, allocated_on, marked_on, gray_on, pointer_on, bare_block}

-- two tests of all numbers below n
pub all_and : (n : ℕ) (s t : ℕ → Bool) → (all_below n s && all_below n t) ≡ all_below n (λ k. s k && t k)
all_and n s t = same_test (all_below n s && all_below n t) (all_below n (λ k. s k && t k)) join part
  where
    join : T (all_below n s && all_below n t) → T (all_below n (λ k. s k && t k))
    join x =
        let p = (and_iff (all_below n s) (all_below n t)).0 x in
        (all_iff n (λ k. s k && t k)).1 (λ k l. (and_iff (s k) (t k)).1 ((all_iff n s).0 p.0 k l, (all_iff n t).0 p.1 k l))

    part : T (all_below n (λ k. s k && t k)) → T (all_below n s && all_below n t)
    part x =
        let p : (k : ℕ) → k < n → T (s k) × T (t k) = λ k l. (and_iff (s k) (t k)).0 ((all_iff n (λ k. s k && t k)).0 x k l) in
        (and_iff (all_below n s) (all_below n t)).1 ((all_iff n s).1 (λ k l. (p k l).0), (all_iff n t).1 (λ k l. (p k l).1))

-- a word without bits keeps every rule
bare_keeps : (a m g q s i mk gr sc f : Bool) → T (not a && not m && not g && not q) → keeps a m g q s i mk gr sc f ≡ true
unfolding keeps ◌implies◌
bare_keeps false false false false s i mk gr sc f t = refl
bare_keeps false false false true s i mk gr sc f t = absurd t
bare_keeps false false true q s i mk gr sc f t = absurd t
bare_keeps false true g q s i mk gr sc f t = absurd t
bare_keeps true m g q s i mk gr sc f t = absurd t

module _ (x : Blocks) (at starts off left before : ℕ) (allowed : Allowed) (h : at < page_blocks * x.pages) where
  pub empty_keeps : true ≡ all_below word_bits (clear (block_at x at)) → true ≡ all_below word_bits (said_of block_rule x at starts off left before allowed)
  unfolding bare
  empty_keeps e =
      sym (all_from word_bits (said_of block_rule x at starts off left before allowed)
      (λ j l. bare_keeps (bits allocated j) (bits marked j) (bits gray j) (bits pointer j) _ _ _ _ _ _ (is_true _ (all_at word_bits (λ j. said_of bare x (word_bits * at + j)) (sym (e ∙ bare_block x at h)) j l))))
    where
      bits : Part → ℕ → Bool
      bits q j = bit x.pages q x.bits.now (word_bits * at + j)

  module _ (marks grays scans : ℕ) (ms : marks ≡ cond allowed.marks (2 ^ 64 - 1) 0) (gs : grays ≡ cond allowed.grays (2 ^ 64 - 1) 0)
      (ps : scans ≡ cond allowed.pointers (2 ^ 64 - 1) 0) (first inside : ℕ) (fs : (j : ℕ) → j < 64 → on first j ≡ (leb off j && on starts (j - off))) (is : (j : ℕ) → j < 64 → on inside j ≡ ltb j left) where
    abbrev colours : Block → ℕ → Bool
    colours w = rule w.allocated w.marked w.gray (bit_and first inside) marks grays

    abbrev pointers : Block → ℕ → Bool
    pointers w = pointer_rule (bit_and w.allocated scans) w.pointers (bit_and first inside) (bit_and inside scans) before

    on_marks : (j : ℕ) → j < 64 → on marks j ≡ allowed.marks
    on_marks j l = rw ms (on_flag allowed.marks j l)

    on_grays : (j : ℕ) → j < 64 → on grays j ≡ allowed.grays
    on_grays j l = rw gs (on_flag allowed.grays j l)

    on_scans : (j : ℕ) → j < 64 → on scans j ≡ allowed.pointers
    on_scans j l = rw ps (on_flag allowed.pointers j l)

    block_is : (all_below word_bits (colours (block_at x at)) && all_below word_bits (pointers (block_at x at))) ≡ all_below word_bits (said_of block_rule x at starts off left before allowed)
    unfolding rule pointer_rule keeps
    block_is =
        all_and word_bits (colours (block_at x at)) (pointers (block_at x at))
        ∙ all_cong word_bits (λ j. colours (block_at x at) j && pointers (block_at x at) j) (said_of block_rule x at starts off left before allowed)
        (λ j l. let P = x.pages in let b = x.bits.now in
        simp (on_and, allocated_on P b at h j l, marked_on P b at h j l, gray_on P b at h j l, pointer_on P b at h j l, pointer_on P b at h (j - 1) (omega arith), fs j l, is j l, on_marks j l, on_grays j l, on_scans j l))

    module _ (w : Block) (ws : w ≡ block_at x at) {r : Bool} (e : r ≡ all_below word_bits (colours w)) where
      pub colours_fail : r ≡ false → false ≡ all_below word_bits (said_of block_rule x at starts off left before allowed)
      colours_fail f = rw (sym (rw ws at e) ∙ f) at block_is

      pub colours_pass : r ≡ true → {s : Bool} → s ≡ all_below word_bits (pointers w) → s ≡ all_below word_bits (said_of block_rule x at starts off left before allowed)
      colours_pass f g = (rw ws at g) ∙ (rw (sym (rw ws at e) ∙ f) at block_is)

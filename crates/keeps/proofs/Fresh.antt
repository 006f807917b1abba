-- Setup: the fresh heap passes the audit.
use Prim.Native.Nat.{ℕ, ◌+◌, ◌*◌, ◌/◌, ◌%◌, ◌^◌}
use mathlib.Core.List.{List}
use mathlib.Core.Bool.{Bool, true, false, cond, and-false, true≢false}
use mathlib.Core.Logic.{inl, ◌≢◌}
use mathlib.Core.Path.{◌≡◌, refl, sym, ◌∙◌}
use native.Mathlib.Omega.{arith}
use native.Mathlib.Nat.{zero-div}
use lib.ListN.{get_or, set, length-set, replicate, length-replicate, get_or-replicate, get_or-eq_default}
use lib.Dec.{T, eqb, ltb}
use borrow.Author.Tests.{ltb-true, ltb-false, ne_eqb}
use Rattle.model.specs.Memory.{Heap, page_words, entry_numbers, count_offset, kind_offset, bitmap_words, word_bits, root_words, slot_count, first_state, globals_state_at, phase_at, open_state}
use Rattle.model.specs.Bitmaps.{Part, allocated, marked, gray, pointer, bit_in, bit_at, bit_of, place}
use Rattle.model.specs.Spans.{owner, page_count, kind_entry}
use Rattle.model.specs.Records.{fresh}
use Rattle.model.specs.Facts.{Audited, Sized}
use Rattle.model.proofs.Tests.{of_true}
use Rattle.model.proofs.Words.{set_at}

-- what zeroed words, bits and roots hold
abbrev pub zeros : ℕ → List ℕ
zeros n = replicate n 0

pub zero_at : (n i : ℕ) → get_or (zeros n) i 0 ≡ 0
zero_at n i = go (ltb i n) refl
  where
    go : (b : Bool) → ltb i n ≡ b → get_or (zeros n) i 0 ≡ 0
    go true e = get_or-replicate n i 0 0 (ltb-true i n e)
    go false e = get_or-eq_default (zeros n) 0 (rw (length-replicate {A = ℕ} n 0) (ltb-false i n e))

pub no_bit : (n m : ℕ) (q : Part) (w : ℕ) → bit_in n q (zeros m) w ≡ false
unfolding bit_in bit_at bit_of
no_bit n m q w = rw (zero_at m (place n q w / word_bits), zero-div (2 ^ (place n q w % word_bits))) (and-false (ltb w n))

pub fresh_root : (x : ℕ) → get_or (set (zeros root_words) globals_state_at open_state) x 0 ≡ cond (eqb x globals_state_at) open_state 0
fresh_root x = rw (set_at (zeros root_words) globals_state_at open_state (rw (length-replicate {A = ℕ} root_words 0) (omega arith)) x, zero_at root_words x)

pub fresh_nil : (x : ℕ) → x ≢ globals_state_at → get_or (set (zeros root_words) globals_state_at open_state) x 0 ≡ 0
fresh_nil x d = rw (fresh_root x, ne_eqb x globals_state_at d)

pub fresh_kept : (h : Heap) → Sized h → Audited (fresh h)
unfolding fresh owner page_count kind_entry
fresh_kept h Z = record {
  sized = record {
    low = Z.low;
    high = Z.high;
    arena = Z.arena;
    table = length-replicate (entry_numbers * h.pages) 0;
    bits = length-replicate (bitmap_words * h.pages) 0;
    roots = length-set (zeros root_words) globals_state_at open_state ∙ length-replicate {A = ℕ} root_words 0;
  };
  spans = record {
    whose = λ g y. absurd (omega (arith, zero_at (entry_numbers * h.pages) (entry_numbers * g)));
    body = λ s g e. absurd (omega (arith, zero_at (entry_numbers * h.pages) (entry_numbers * s)));
    inside = λ s e. absurd (omega (arith, zero_at (entry_numbers * h.pages) (entry_numbers * s)));
    rest = λ g d. (zero_at (entry_numbers * h.pages) (entry_numbers * g + count_offset), zero_at (entry_numbers * h.pages) (entry_numbers * g + kind_offset));
    entry = λ s e. absurd (omega (arith, zero_at (entry_numbers * h.pages) (entry_numbers * s)));
  };
  bits = record {
    element = λ w a. absurd (none allocated w a);
    marks = λ w a. absurd (none marked w a);
    grays = λ w a. absurd (none gray w a);
    pointers = λ w a. absurd (none pointer w a);
    head = λ w a. absurd (none allocated w a);
    unbroken = λ w a. absurd (none pointer w a);
  };
  phases = record {
    none = λ e w. no_bit (page_words * h.pages) (bitmap_words * h.pages) marked w;
    swept = λ d s e. absurd (omega (arith, zero_at (entry_numbers * h.pages) (entry_numbers * s)));
    plain = λ d w. no_bit (page_words * h.pages) (bitmap_words * h.pages) gray w;
    unswept = λ e w a. absurd (none marked w a);
  };
  references = record { root = λ x l. inl (fresh_nil x (omega arith)); content = λ v a. absurd (none pointer v a) };
  states = record {
    phase = rw (fresh_nil phase_at (omega arith)) (omega arith);
    legal = λ s l. rw (fresh_nil (first_state + s) (omega arith)) (omega arith, λ e. absurd (omega arith));
    globals = rw (fresh_root globals_state_at) (omega arith, omega arith, λ e. absurd (omega arith));
    closed = λ s i l m e. fresh_nil (slot_count * s + i) (omega arith);
  };
  occupied = λ s e. absurd (omega (arith, zero_at (entry_numbers * h.pages) (entry_numbers * s)));
}
  where
    none : (q : Part) (w : ℕ) → T (bit_in (page_words * h.pages) q (zeros (bitmap_words * h.pages)) w) → ⊥
    none q w a = true≢false (sym (of_true _ a) ∙ no_bit (page_words * h.pages) (bitmap_words * h.pages) q w)

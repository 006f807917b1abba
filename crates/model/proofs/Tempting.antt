-- What the rules that are tempting and wrong would break: one fact for each, in terms of words and bits. "Shading only the new value", "allocating
-- white in the mark phase", "allocating in an unswept span", "leaving freed pointer bits or old words in a reused element", "freeing a span's pages
-- while one marked element remains"; and a start that marks, a scan that skips a slot, a sweep that frees nothing. Each fact unfolds the definition
-- that it is about and reads the result by the laws of bits, words and entries, so that it holds of the definition written another way too, and a
-- wrong one is refused here (model/must-fail has an edit for each). What else these calls leave is in proofs/Effects.antt.
use Prim.Native.Nat.{ℕ, zero, suc, ◌+◌, ◌*◌, ◌<◌, ◌≤◌}
use mathlib.Core.Bool.{Bool, true, false, cond, ◌&&◌, ◌||◌, or-true, and-true, and-false}
use mathlib.Core.List.{List}
use mathlib.Core.Logic.{◌≢◌, inl}
use mathlib.Core.Path.{◌≡◌, refl}
use native.Mathlib.Omega.{arith}
use lib.ListN.{get_or, length}
use lib.Dec.{T, eqb}
use borrow.Author.Tests.{eqb-true, eqb-false, eq-eqb, ne_eqb, lt-leb}
use Rattle.model.specs.Memory.{Heap, phase, state, slot, stack_count, slot_count, page_words, unswept_flag, off, mark, gray_state, nil}
use Rattle.model.specs.Classes.{class_of, kind_of, pages_for, element_words_of}
use Rattle.model.specs.Bitmaps.{Part, allocated, marked, pointer, is, put_bit, put_bits}
use Rattle.model.specs.Spans.{owner, page_count, kind_entry, is_unswept, elements, element_start, record_of}
use Rattle.model.specs.Answers.{◌given◌, ◌or_else◌}
use Rattle.model.specs.Shading.{shade, shade_all, barrier}
use Rattle.model.specs.Allocate.{has_room, new_bits, new_word, room_refusal, place_record}
use Rattle.model.specs.Cycle.{start, scan_stack, swept_bits, swept_table, nothing_left}
use Rattle.model.specs.Facts.{IsSpan, Sized, bit}
use Rattle.model.proofs.Tests.{is_true, of_false, same_test, or_iff}
use Rattle.model.proofs.Rules.{tests}
use Rattle.model.proofs.Bounded.{within, within_yes}
use Rattle.model.proofs.Words.{words_at_lem}
use Rattle.model.proofs.Bitmaps.{Four, same_part, part_at, part_run, part_length, run_length_lem, bit_inside}
use Rattle.model.proofs.Table.{owner_put, pages_owner}
use Rattle.model.specs.Lent.{PageTable}
use Rattle.model.proofs.Spans.{start_in}
use Rattle.model.proofs.Facts.{four}
use Rattle.model.proofs.Named.{There}
use Rattle.model.proofs.Checks.{passes}
use Rattle.model.proofs.Shading.{shade_length, shade_marked, all_four, all_suc}

module _ (P : ℕ) (t : List ℕ) where
  -- a shaded record is marked, and a marked one stays so
  pub shade_marks : (v : ℕ) (b : List ℕ) → There P t v → Four (page_words * P) b → v ≢ nil → T (bit P marked (shade P t v b) (record_of t v))
  shade_marks v b h f d = rw (shade_marked P t v b h f (record_of t v), ne_eqb v nil d, eq-eqb (record_of t v) (record_of t v) refl) (is_true _ (or-true (bit P marked b (record_of t v))))

  pub shade_keeps : (v : ℕ) (b : List ℕ) → There P t v → Four (page_words * P) b → (w : ℕ) → T (bit P marked b w) → T (bit P marked (shade P t v b) w)
  shade_keeps v b h f w m = rw (shade_marked P t v b h f w) (go (eqb v nil))
    where
      go : (z : Bool) → T (cond z (bit P marked b w) (bit P marked b w || eqb w (record_of t v)))
      go true = m
      go false = (or_iff (bit P marked b w) (eqb w (record_of t v))).1 (inl m)

  -- .. of many
  pub all_marks : (value : ℕ → ℕ) (b : List ℕ) → Four (page_words * P) b → (n : ℕ) → ((k : ℕ) → k < n → There P t (value k)) →
      (k : ℕ) → k < n → value k ≢ nil → T (bit P marked (shade_all P t n value b) (record_of t (value k)))
  all_marks value b f zero h k l d = absurd (omega arith)
  all_marks value b f (suc n) h k l d = rw (all_suc P t n value b) (go (eqb k n) refl (λ m. all_marks value b f n (λ j q. h j (omega arith)) k m d))
    where
      before : List ℕ
      before = shade_all P t n value b

      four' : Four (page_words * P) before
      four' = all_four P t value b f n (λ j q. h j (omega arith))

      go : (c : Bool) → eqb k n ≡ c → (k < n → T (bit P marked before (record_of t (value k)))) → T (bit P marked (shade P t (value n) before) (record_of t (value k)))
      go true e ih = let z : k ≡ n = eqb-true k n e in rw z (shade_marks (value n) before (h n (omega arith)) four' (rw z at d))
      go false e ih = shade_keeps (value n) before (h n (omega arith)) four' (record_of t (value k)) (ih (omega (arith, eqb-false k n e)))

module _ (h : Heap) (Z : Sized h) where
  -- a bit after one bit was written, and after a run of them, in bitmaps as long as the heap's; `written`: after all of them, in any order
  pub put_at : (q r : Part) (w : ℕ) (on : Bool) (b : List ℕ) → w < page_words * h.pages → length b ≡ length h.bits → (v : ℕ) →
      bit h.pages q (put_bit (page_words * h.pages) r w on b) v ≡ cond (same_part q r && eqb v w) on (bit h.pages q b v)
  put_at q r w on b l e v = part_at (page_words * h.pages) q r w on b l (rw e (four h Z)) v

  pub run_at : (q r : Part) (w n : ℕ) (g : ℕ → Bool) (b : List ℕ) → w + n ≤ page_words * h.pages → length b ≡ length h.bits → (v : ℕ) →
      bit h.pages q (put_bits (page_words * h.pages) r w n g b) v ≡ cond (same_part q r && within w n v) (g v) (bit h.pages q b v)
  run_at q r w n g b l e v = part_run (page_words * h.pages) r w n g b l (rw e (four h Z)) q v

  ruleset written = (put_at, run_at, part_length, run_length_lem)

  -- in the mark phase a store marks what the word held, and what it gets
  module _ (one : phase h ≡ mark) (old new : ℕ) (ho : There h.pages h.table old) (hn : There h.pages h.table new) where
    abbrev first : List ℕ
    first = shade h.pages h.table old h.bits

    four' : Four (page_words * h.pages) first
    four' = rw (shade_length h.pages h.table old h.bits ho (four h Z)) (four h Z)

    pub barrier_old : old ≢ nil → T (bit h.pages marked (barrier h old new) (record_of h.table old))
    unfolding barrier
    barrier_old d = rw one (shade_keeps h.pages h.table new first hn four' (record_of h.table old) (shade_marks h.pages h.table old h.bits ho (four h Z) d))

    pub barrier_new : new ≢ nil → T (bit h.pages marked (barrier h old new) (record_of h.table new))
    unfolding barrier
    barrier_new d = rw one (shade_marks h.pages h.table new first hn four' d)

  -- a record born in the mark phase is marked, and no other mark changes
  pub born_marked : phase h ≡ mark → (w p : ℕ) → w < page_words * h.pages → w + p ≤ page_words * h.pages → (v : ℕ) →
      bit h.pages marked (new_bits h w p) v ≡ cond (eqb v w) true (is marked h v)
  unfolding new_bits
  born_marked one w p hw l v = simp (one, written) refl

  -- the words of a new record are 0
  pub born_zero : (s i size p : ℕ) → room_refusal h (kind_of size p) (pages_for size) ≡ 0 →
      let w = new_word h (kind_of size p) (pages_for size) in let n = element_words_of (class_of size) (pages_for size) in
      w + n ≤ page_words * h.pages → (v : ℕ) → w ≤ v → v < w + n → get_or (place_record h s i size p).heap.arena v 0 ≡ 0
  unfolding place_record
  born_zero s i size p e l v a b = let k = Z.arena in simp (e, words_at_lem (page_words * h.pages), within_yes) refl

  -- the span that an allocation takes an element of is swept
  pub room_swept : (kind s : ℕ) → kind < unswept_flag → T (has_room h kind s) → is_unswept h.table s ≡ false
  room_swept kind s l ok = let x = simp tests at ok in lt-leb unswept_flag (kind_entry h.table s) (omega arith)

  -- an accepted start marks nothing
  pub start_bits : phase h ≡ off → (start h).heap.bits ≡ h.bits
  unfolding start ◌given◌
  start_bits e = rw e refl

  -- in the mark phase a scan of a gray stack marks what each of its slots names
  pub scan_slots : phase h ≡ mark → (s : ℕ) → s < stack_count → state h s ≡ gray_state → ((i : ℕ) → i < slot_count → There h.pages h.table (slot h s i)) →
      (i : ℕ) → i < slot_count → slot h s i ≢ nil → T (bit h.pages marked (scan_stack h s).heap.bits (record_of h.table (slot h s i)))
  unfolding scan_stack ◌given◌ ◌or_else◌
  scan_slots one s k two th i l d = rw (one, two, lt-leb stack_count s k) (all_marks h.pages h.table (slot h s) h.bits (four h Z) slot_count th i l d)

  module _ (s : ℕ) (l : s + page_count h.table s ≤ h.pages) where
    abbrev swept : ℕ → Bool
    swept = within (page_words * s) (page_words * page_count h.table s)

    pub inside : page_words * s + page_words * page_count h.table s ≤ page_words * h.pages
    inside = omega arith

    -- the sweep of a span leaves allocated what is marked, and a pointer bit where its element is
    pub swept_allocated : (v : ℕ) → bit h.pages allocated (swept_bits h s) v ≡ cond (swept v) (is marked h v) (is allocated h v)
    unfolding swept_bits
    swept_allocated v = let i = inside in simp written refl

    pub swept_pointer : (v : ℕ) → bit h.pages pointer (swept_bits h s) v ≡ cond (swept v) (is pointer h v && is marked h (start_in h.table s v)) (is pointer h v)
    unfolding swept_bits
    swept_pointer v = go inside (is marked h (start_in h.table s v)) refl
      where
        go : page_words * s + page_words * page_count h.table s ≤ page_words * h.pages → (m : Bool) → is marked h (start_in h.table s v) ≡ m →
            bit h.pages pointer (swept_bits h s) v ≡ cond (swept v) (is pointer h v && m) (is pointer h v)
        go i true e = simp (written, e, and-true) refl
        go i false e = simp (written, e, and-false) refl

    -- a page's owner after one entry was written, and after a run of them; beside them in a list stands how many pages there are, `h.pages`
    ruleset entered = (owner_put, pages_owner)

    -- while a marked element remains, the span keeps its pages
    pub pages_kept : IsSpan h.table s → (k : ℕ) → k < elements h.table s → T (is marked h (element_start h.table s k)) →
        (x : ℕ) → owner (swept_table h s) x ≡ owner h.table x
    unfolding swept_table nothing_left
    pages_kept i k below m x =
        go (same_test (nothing_left h s) false (λ y. rw (of_false (is marked h (element_start h.table s k)) ((simp passes at y) k below)) at m) (λ z. absurd z))
        (omega (arith, bit_inside (page_words * h.pages) marked h.bits (element_start h.table s k) m)) Z.table (eqb x s) refl
      where
        go : nothing_left h s ≡ false → s < h.pages → PageTable h.pages h.table → (c : Bool) → eqb x s ≡ c → owner (swept_table h s) x ≡ owner h.table x
        go left low size true e = simp (left, entered, h.pages, eqb-true x s e, eq-eqb s s refl, i) refl
        go left low size false e = simp (left, entered, h.pages, e) refl

-- The calls on records, stacks and globals, accepted or refused, on a heap that passes the audit.
use Prim.Native.Nat.{ℕ, ◌+◌, ◌*◌, ◌<◌}
use mathlib.Core.List.{List}
use mathlib.Core.Bool.{true, false}
use mathlib.Core.Path.{◌≡◌, refl, ap, sym, ◌∙◌}
use native.Mathlib.Omega.{arith}
use lib.ListN.{set}
use borrow.Author.Tests.{lt-ltb, eq-eqb}
use Rattle.marking.specs.WordHeap.{record_in}
use Rattle.marking.specs.Event.{Source}
use Rattle.marking.specs.Trace
use Rattle.model.specs.Memory.{Heap, with_arena, with_bits, with_table, set_root, slot, global, word, address_of, slot_at, global_at, stack_count, slot_count, page_words, open_state, closed}
use Rattle.model.specs.Bitmaps.{pointer}
use Rattle.model.specs.Classes.{kind_of, pages_for}
use Rattle.model.specs.Checks.{record_at, open_refusal, closed_refusal, slot_refusal, slots_refusal, global_refusal, pointer_refusal, number_refusal}
use Rattle.model.specs.Shading.{barrier}
use Rattle.model.specs.Allocate.{place_record, new_bits, new_table, new_word, room_refusal}
use Rattle.model.specs.Records.{open_stack, close_stack, copy, clear, load, store, put, get, load_global, store_global, emptied}
use Rattle.model.specs.declared.Call.TheVariants.{Open, Close, Clear, Copy, Get, LoadGlobal, StoreGlobal, Allocate, Load, Store, Put}
use Rattle.model.specs.declared.Answer.TheVariants.{Done, Value}
use Rattle.model.proofs.Classes.{takes}
use Rattle.model.proofs.Bitmaps.{bit_inside}
use Rattle.model.proofs.Spans.{whole}
use Rattle.model.specs.Facts.{Audited}
use Rattle.model.proofs.Named.{reference_there}
use Rattle.model.proofs.Facts.{pointer_word}
use Rattle.model.proofs.Checks.{passes, open_passed, slot_passed, slots_passed, global_passed, pointer_passed, number_passed, Allocates, room_passed}
use Rattle.history.specs.Ledger.{words_of}
use Rattle.keeps.proofs.Roots.{root_at}
use Rattle.keeps.proofs.Allotted.{allotted}
use Rattle.keeps.proofs.Allocated.{choice}
use Rattle.keeps.proofs.Calls.{slot_refers, global_refers, record_named}
use Rattle.history.proofs.View.{view, slot_view, put_view}
use Rattle.history.proofs.ViewShaded.{emptied_view, store_view, store_global_view}
use Rattle.history.proofs.ViewAllotted.{allotted_step}
use Rattle.history.proofs.Steps.{Happens, by_refusal, slot_now, audit_view, see_slot, see_open, see_global, see_pointers, see_words, see_word}

-- .. and so does one that an allocation took
allotted_now : {h : Heap} → Audited h → (s i w n p : ℕ) (u : List ℕ) → s < stack_count → i < slot_count → Value (address_of w) ≡ Value ((view (allotted s i w n p (with_table u h))).slots s i)
unfolding view
allotted_now {h} F s i w n p u a b = ap Value
    (sym (rw (
      lt-ltb s stack_count a,
      lt-ltb i slot_count b,
      root_at F (slot_count * s + i) (address_of w) (omega arith) (slot_count * s + i),
      eq-eqb (slot_count * s + i) (slot_count * s + i) refl,
    )))

module _ {h : Heap} (F : Audited h) where
  pub open_happens : (s : ℕ) → let o = open_stack h s in Happens h (Open s) o.answer o.heap
  unfolding open_stack emptied
  open_happens s = by_refusal h (Open s) (closed_refusal h s) Done (emptied h s open_state) refl
      (λ e. let x = simp passes at e in record {
        step = rw (emptied_view F s open_state true x.0 refl refl) (Trace.Step.reset_stack s true (audit_view F));
        said = tt;
      })

  pub close_happens : (s : ℕ) → let o = close_stack h s in Happens h (Close s) o.answer o.heap
  unfolding close_stack emptied
  close_happens s = by_refusal h (Close s) (open_refusal h s) Done (emptied h s closed) refl (λ e. let x = open_passed h s e in record {
    step = rw (emptied_view F s closed false x.below refl refl) (Trace.Step.reset_stack s false (audit_view F));
    said = tt;
  })

  pub copy_happens : (s i j : ℕ) → let o = copy h s i j in Happens h (Copy s i j) o.answer o.heap
  unfolding copy
  copy_happens s i j = by_refusal h (Copy s i j) (slots_refusal h s i j) (Value (slot h s j))
      (set_root (slot_at s i) (slot h s j) h) refl (λ e.
      let x = slots_passed h s i j e in let o = x.0 in record {
        step = rw (slot_view F s i (slot h s j) o.below x.1, ← (see_slot h s j o.below x.2))
            (Trace.Step.assign s i (Source.slot j) (audit_view F) (see_open h s o.below o.is_open) x.1 tt);
        said = slot_now F s i (slot h s j) o.below x.1;
      })

  pub clear_happens : (s i : ℕ) → let o = clear h s i in Happens h (Clear s i) o.answer o.heap
  unfolding clear
  clear_happens s i = by_refusal h (Clear s i) (slot_refusal h s i) (Value 0) (set_root (slot_at s i) 0 h) refl (λ e.
      let x = slot_passed h s i e in let o = x.0 in record {
        step = rw (slot_view F s i 0 o.below x.1) (Trace.Step.assign s i Source.nil (audit_view F) (see_open h s o.below o.is_open) x.1 tt);
        said = slot_now F s i 0 o.below x.1;
      })

  pub load_global_happens : (s i g : ℕ) → let o = load_global h s i g in Happens h (LoadGlobal s i g) o.answer o.heap
  unfolding load_global
  load_global_happens s i g = by_refusal h (LoadGlobal s i g) (global_refusal h s i g) (Value (global h g))
      (set_root (slot_at s i) (global h g) h) refl (λ e.
      let x = global_passed h s i g e in let o = x.0 in record {
        step = rw (slot_view F s i (global h g) o.below x.1, ← (see_global h g x.2))
            (Trace.Step.assign s i (Source.global g) (audit_view F) (see_open h s o.below o.is_open) x.1 tt);
        said = slot_now F s i (global h g) o.below x.1;
      })

  -- the record in slot j
  see_record : (s j : ℕ) → s < stack_count → j < slot_count → record_in (view h) s j ≡ record_at h s j
  see_record s j a b = rw (see_slot h s j a b)

  pub load_happens : (s i j f : ℕ) → let o = load h s i j f in Happens h (Load s i j f) o.answer o.heap
  unfolding load
  load_happens s i j f = by_refusal h (Load s i j f) (pointer_refusal h s i j f)
      (Value (word h (record_at h s j + f))) (set_root (slot_at s i) (word h (record_at h s j + f)) h) refl (λ e.
      let x = pointer_passed h s i j f e in let o = x.stack in
      let n = record_named F s j o.below x.slot x.named in
      let z = see_record s j o.below x.slot in record {
        step = rw (slot_view F s i (word h (record_at h s j + f)) o.below x.other, ← (see_word h (record_at h s j + f)), ← z)
            (Trace.Step.assign s i (Source.pointer j f) (audit_view F) (see_open h s o.below o.is_open) x.other
            (rw (see_slot h s j o.below x.slot) (omega (arith, x.named)), rw (z, see_pointers h (record_at h s j)) x.field));
        said = slot_now F s i (word h (record_at h s j + f)) o.below x.other;
      })

  pub store_happens : (s j f k : ℕ) → let o = store h s j f k in Happens h (Store s j f k) o.answer o.heap
  unfolding store
  store_happens s j f k = by_refusal h (Store s j f k) (pointer_refusal h s k j f) Done
      (with_arena (set h.arena (record_at h s j + f) (slot h s k))
      (with_bits (barrier h (word h (record_at h s j + f)) (slot h s k)) h)) refl (λ e.
      let x = pointer_passed h s k j f e in let o = x.stack in
      let n = record_named F s j o.below x.slot x.named in
      let p = pointer_word F (record_at h s j) n.0 n.1 f x.field in
      let l = bit_inside (page_words * h.pages) pointer h.bits (record_at h s j + f) p.0 in
      let r = slot_refers F s k o.below x.other in
      let z = see_record s j o.below x.slot in record {
        step = rw (store_view F (record_at h s j + f) (slot h s k) l (reference_there F.bits (slot h s k) r)
            (reference_there F.bits (word h (record_at h s j + f)) p.1))
            (rw (z, see_slot h s k o.below x.other) at
            (Trace.Step.store s j f k (audit_view F) (rw (see_slot h s j o.below x.slot) (omega (arith, x.named)))
            (rw (z, see_pointers h (record_at h s j)) x.field)));
        said = tt;
      })

  pub store_global_happens : (s g i : ℕ) → let o = store_global h s g i in Happens h (StoreGlobal s g i) o.answer o.heap
  unfolding store_global
  store_global_happens s g i = by_refusal h (StoreGlobal s g i) (global_refusal h s i g) Done
      (set_root (global_at g) (slot h s i) (with_bits (barrier h (global h g) (slot h s i)) h)) refl (λ e.
      let x = global_passed h s i g e in let o = x.0 in
      let r = slot_refers F s i o.below x.1 in record {
        step = rw (
          store_global_view F g (slot h s i) x.2 (reference_there F.bits (slot h s i) r)
              (reference_there F.bits (global h g) (global_refers F g x.2)),
          ← (see_slot h s i o.below x.1),
        )
            (Trace.Step.store_global s g i (audit_view F) x.2);
        said = tt;
      })

  pub put_happens : (s j f v : ℕ) → let o = put h s j f v in Happens h (Put s j f v) o.answer o.heap
  unfolding put
  put_happens s j f v = by_refusal h (Put s j f v) (number_refusal h s j f) Done
      (with_arena (set h.arena (record_at h s j + f) v) h) refl (λ e.
      let x = number_passed h s j f e in let o = x.stack in
      let n = record_named F s j o.below x.slot x.named in
      let w = whole F.spans (record_at h s j) (F.bits.element (record_at h s j) n.0) in
      let z = see_record s j o.below x.slot in record {
        step = rw (put_view F (record_at h s j + f) v (omega (arith, w.1, x.high)))
            (rw z at (Trace.Step.put s j f v (audit_view F) (rw (see_slot h s j o.below x.slot) (omega (arith, x.named)))
            (rw (z, see_pointers h (record_at h s j)) x.low) (rw (z, see_words h (record_at h s j)) x.high)));
        said = tt;
      })

  pub get_happens : (s j f : ℕ) → let o = get h s j f in Happens h (Get s j f) o.answer o.heap
  unfolding get
  get_happens s j f = by_refusal h (Get s j f) (number_refusal h s j f) (Value (word h (record_at h s j + f))) h refl (λ e.
      let x = number_passed h s j f e in let o = x.stack in
      let z = see_record s j o.below x.slot in record {
        step = Trace.Step.get s j f (rw (see_slot h s j o.below x.slot) (omega (arith, x.named))) (rw (z, see_pointers h (record_at h s j)) x.low)
            (rw (z, see_words h (record_at h s j)) x.high);
        said = ap Value (sym (see_word h (record_at h s j + f))) ∙ ap (λ (w : ℕ). Value ((view h).arena (w + f))) (sym z);
      })

  -- a record put in its place, on the heap that the sweeps for it have left
  pub place_happens : (s i size p : ℕ) → Allocates h s i size p → let o = place_record h s i size p in Happens h (Allocate s i size p) o.answer o.heap
  unfolding place_record new_bits
  place_happens s i size p x = by_refusal h (Allocate s i size p) (room_refusal h (kind_of size p) (pages_for size)) (Value (address_of w))
      (allotted s i w (words_of size) p (with_table (new_table h (kind_of size p) (pages_for size)) h)) refl (λ e.
      let o = x.stack in
      let C = choice F size p (takes size p x.some x.limit x.pointers) (room_passed h (kind_of size p) (pages_for size) e) in record {
        step = allotted_step F C s i o.below x.slot (audit_view F) (see_open h s o.below o.is_open);
        said = allotted_now F s i w (words_of size) p (new_table h (kind_of size p) (pages_for size)) o.below x.slot;
      })
    where
      w : ℕ
      w = new_word h (kind_of size p) (pages_for size)

-- The whole call: where the new element lies, the table with its span, and what meets the outcome.
use Prim.Native.Nat.{ℕ, ◌+◌, ◌*◌, ◌/◌, ◌<◌, ◌≤◌}
use mathlib.Core.Bool.{Bool, true, false, cond, not, ◌||◌}
use mathlib.Core.List.{List}
use mathlib.Core.Logic.{◌≢◌}
use mathlib.Core.Path.{◌≡◌, refl, sym, ◌∙◌, ap}
use native.Mathlib.Nat.{mul-le-mul_right}
use native.Mathlib.Omega.{arith}
use lib.Dec.{T, eqb, ltb, ltb→lt}
use borrow.Author.Tests.{eqb-true, ltb-true, not-true}
use Rattle.model.specs.Memory.{Heap, lent, page_of, slot_at, stack_count, slot_count, page_words, word_bytes}
use Rattle.model.specs.Answers.{Meets, numbers, ◌or_else◌}
use Rattle.model.specs.Classes.{class_of, kind_of, pages_for, element_words_of, max_size}
use Rattle.model.specs.Spans.{element_words, element_start, put_pages, span_page}
use Rattle.model.specs.Allocate.{free_element, span_with_room, best_run, room_for, new_word, new_table, room_refusal, last_of, swept_for_room, allocate_refusal, allocate_sweeps, place_record, allocate}
use Rattle.model.specs.declared.Answer.{Answer}
use Rattle.model.specs.declared.Answer.TheVariants.{Refused, Value}
use Rattle.model.proofs.Classes.{takes}
use Rattle.model.proofs.Effects.{room_words}
use Rattle.model.proofs.Spans.{element_fits}
use Rattle.model.specs.Facts.{Audited}
use Rattle.model.specs.Room.{Sweeps}
use Rattle.model.proofs.Sweeps.{allocate_sweeps_lem, last_is}
use Rattle.model.proofs.Checks.{or_else_iff, allocate_passed, room_passed}
use Rattle.keeps.proofs.Swept.{sweeps_kept}
use Rattle.model.specs.Refusals.{refused}
use Rattle.model.proofs.Outcomes.{refused as as_refused}
use Rattle.page_runs.proofs.Allocate.{best_fits}
use Rattle.page_entries.specs.Needs.{NewEntries}
use Rattle.record_room.specs.Needs.{PlaceIn, Found, PlaceFor}
use Rattle.classes.specs.Shape.{Shaped}
use Rattle.model.specs.declared.Refusal.{Refusal}
use Rattle.std.specs.Prelude.{Result, Ok}
use Rattle.std.proofs.lemmas.Result.{IfOk-at_ok}
use Rattle.record_room.specs.declared.RecordPlace.{RecordPlace}
use Rattle.record_room.proofs.Room.{Suits, span_found}
use Rattle.call_allocate.specs.Needs.{extended, ElementFor, ElementTaken}

module _ {h : Heap} (F : Audited h) (size p : ℕ) (some : size ≢ 0) (limit : size ≤ max_size) (pointers : p ≤ size / word_bytes) where
  abbrev old : ℕ
  old = span_with_room h (kind_of size p)

  abbrev new : ℕ
  new = best_run h.pages h.table (pages_for size)

  -- the elements of the span that was found have the words that the size takes
  old_words : Suits h (kind_of size p) (span_with_room h (kind_of size p)) →
      element_words_of (class_of size) (pages_for size) ≡ element_words h.table (span_with_room h (kind_of size p))
  old_words x = room_words F size p (takes size p some limit pointers) old x.span x.same x.free

  -- the new element lies in the arena
  pub new_inside : T (room_for h (kind_of size p) (pages_for size)) → new_word h (kind_of size p) (pages_for size) + element_words_of (class_of size) (pages_for size) ≤ page_words * h.pages
  unfolding new_word
  new_inside = go (ltb old h.pages) refl
    where
      go : (b : Bool) → ltb old h.pages ≡ b → T (b || ltb new h.pages) →
          cond b (element_start h.table old (free_element h old)) (page_words * new) + element_words_of (class_of size) (pages_for size) ≤ page_words * h.pages
      go true e _ =
          let x = span_found h (kind_of size p) (ltb-true old h.pages e) in
          rw (old_words x) (omega (arith, element_fits F.spans old (free_element h old) x.span x.free, F.spans.inside old x.span))
      go false e m =
          let K = (takes size p some limit pointers).fits in
          let one = mul-le-mul_right (element_words_of (class_of size) (pages_for size)) K.some in
          omega (arith, best_fits h.pages h.table (pages_for size) (ltb→lt new h.pages m), one, K.inside)

  -- a new span lies in the table
  pub new_extends : (f : Bool) (w : ℕ) → f ≡ not (ltb old h.pages) → w ≡ new_word h (kind_of size p) (pages_for size) → T (room_for h (kind_of size p) (pages_for size)) →
      f ≡ true → NewEntries h.table (page_of w) (pages_for size)
  unfolding new_word
  new_extends f w e g m t =
      let c : ltb old h.pages ≡ false = not-true (ltb old h.pages) (sym e ∙ t) in
      let v : w ≡ page_words * new = rw c at g in
      let i = best_fits h.pages h.table (pages_for size) (ltb→lt new h.pages (rw c at m)) in
      record { few = omega (arith, F.sized.high); entries = omega (arith, F.sized.table) }

-- the table with the new span
pub table_is : (h : Heap) (kind n : ℕ) (f : Bool) (w : ℕ) → f ≡ not (ltb (span_with_room h kind) h.pages) → w ≡ new_word h kind n →
    extended f w n kind h.table ≡ new_table h kind n
unfolding new_word new_table
table_is h kind n f w e g = rw (e, g) (go (ltb (span_with_room h kind) h.pages))
  where
    s : ℕ
    s = best_run h.pages h.table n

    go : (b : Bool) →
        let v = cond b (element_start h.table (span_with_room h kind) (free_element h (span_with_room h kind))) (page_words * s) in
        cond (not b) (put_pages (page_of v) n (span_page (page_of v) n kind) h.table) h.table ≡ cond b h.table (put_pages s n (span_page s n kind) h.table)
    go true = refl
    go false = let z : page_words * s / page_words ≡ s = omega arith in rw z

-- THE CALL on h, by what was chosen for it and the page table t and the bitmaps b that the sweeps for it left
module _ {h : Heap} (F : Audited h) {s i size p : ℕ} {r : Result RecordPlace Refusal} {t b : List ℕ} (D : PlaceFor s i size p h (lent h.pages h.arena t b h.roots) r) where
  abbrev kind : ℕ
  kind = kind_of size p

  abbrev n : ℕ
  n = pages_for size

  S : Sweeps h (allocate_sweeps h s i size p)
  S = allocate_sweeps_lem h s i size p

  -- the heap that they left
  abbrev g : Heap
  g = lent h.pages h.arena t b h.roots

  last : lent h.pages h.arena t b h.roots ≡ last_of h (allocate_sweeps h s i size p)
  last = last_is S D.found.table D.found.bits

  G : Audited (lent h.pages h.arena t b h.roots)
  G = rw last (sweeps_kept S F)

  found : Found (lent h.pages h.arena t b h.roots) (allocate_refusal h s i size p or_else room_refusal (lent h.pages h.arena t b h.roots) (kind_of size p) (pages_for size))
      (kind_of size p) (pages_for size) r t b
  found = rw last D.found

  -- an allocation that is not refused before the sweeps is the record put in its place on that heap
  swept_is : allocate_refusal h s i size p ≡ 0 → swept_for_room h size p ≡ lent h.pages h.arena t b h.roots
  unfolding allocate_sweeps
  swept_is e = rw e at (sym last)

  placed : allocate_refusal h s i size p ≡ 0 → {x : Answer} {a u c o : List ℕ} →
      Meets (place_record (lent h.pages h.arena t b h.roots) s i size p) x a u c o → Meets (allocate h s i size p) x a u c o
  unfolding allocate
  placed e m = rw (e, swept_is e) m

  -- refused: before any sweep, or after all of them
  pub refused_meets : refused r ≢ 0 → Meets (allocate h s i size p) (Refused (refused r)) h.arena t b h.roots
  unfolding allocate place_record ◌or_else◌ allocate_sweeps last_of
  refused_meets d = go (eqb (allocate_refusal h s i size p) 0) refl
    where
      go : (c : Bool) → eqb (allocate_refusal h s i size p) 0 ≡ c → Meets (allocate h s i size p) (Refused (refused r)) h.arena t b h.roots
      go true q = let e = eqb-true (allocate_refusal h s i size p) 0 q in placed e (as_refused (room_refusal g kind n) g _ _ (rw q at found.number) d)
      go false q =
          let X = rw q at D.found in
          rw (X.table, X.bits) (as_refused (allocate_refusal h s i size p) h _ _ X.number d)

  -- what is known where the allocation is accepted, with this place
  pub record Accepted (place : RecordPlace) : Type 0 where
    pub number : allocate_refusal h s i size p ≡ 0
    pub room : room_refusal g kind n ≡ 0
    pub stack : s < stack_count
    pub slot : i < slot_count
    pub word : place.word.0 ≡ new_word g kind n
    pub shaped : Shaped size p place.shape
    pub extends : place.fresh ≡ true → NewEntries t (page_of place.word.0) (pages_for size)
    pub takes : ElementFor h.pages place.word.0 (element_words_of (class_of size) (pages_for size)) p (slot_at s i) h.arena b h.roots
    pub table : extended place.fresh place.word.0 (pages_for size) (kind_of size p) t ≡ new_table g kind n

  -- no refusal in the row
  both : (x y : ℕ) → (x or_else y) ≡ 0 → (x ≡ 0) × (y ≡ 0)
  both x y e = (or_else_iff x y).0 e

  pub accepted_facts : {place : RecordPlace} → r ≡ Ok place → Accepted place
  accepted_facts {place} q =
      let P : PlaceIn g kind n place = IfOk-at_ok (PlaceIn g kind n) q found.place in
      let x = both (allocate_refusal h s i size p) (room_refusal g kind n) (sym found.number ∙ ap refused q) in
      let A = allocate_passed h s i size p x.0 in
      let room = room_passed g kind n x.1 in
      let K = takes size p A.some A.limit A.pointers in
      let inside : place.word.0 + element_words_of (class_of size) (pages_for size) ≤ page_words * h.pages = rw P.word (new_inside G size p A.some A.limit A.pointers room) in
      record {
        number = x.0;
        room = x.1;
        stack = A.stack.below;
        slot = A.slot;
        word = P.word;
        shaped = IfOk-at_ok (λ place. Shaped size p place.shape) q D.shaped;
        extends = new_extends G size p A.some A.limit A.pointers place.fresh place.word.0 P.fresh P.word room;
        takes = record {
          marks = record {
            bitmaps = record { few = G.sized.high; bits = G.sized.bits };
            roots = F.sized.roots;
            word = omega (arith, inside, K.fits.words);
            pointers = omega (arith, inside, K.pointers);
          };
          inside = omega (arith, inside, F.sized.arena);
          slot = omega (arith, A.stack.below, A.slot);
        };
        table = table_is g kind n place.fresh place.word.0 P.fresh P.word;
      }

  -- the element taken and the table extended meet the outcome
  pub accepted_meets : {place : RecordPlace} → r ≡ Ok place → {v : ℕ} {a u c o : List ℕ} {k : ℕ} → let x = place.shape in
      u ≡ extended place.fresh place.word.0 x.pages x.kind t → k ≡ slot_at s i → ElementTaken (lent h.pages h.arena t b h.roots) place.word.0 x.words p k v a c o →
      Meets (allocate h s i size p) (Value v) a u c o
  unfolding place_record
  accepted_meets {place} z q e K =
      let A = accepted_facts {place = place} z in
      let X = A.shaped in
      placed A.number (rw (A.room, ← A.word) (record {
        answer = ap Value K.value;
        listed = ap (λ x. numbers (Value x)) K.value;
        arena = rw X.words at K.arena;
        table = rw (X.pages, X.kind) at q ∙ A.table;
        bits = K.bits;
        roots = rw e at K.roots;
      }))

-- EVERY CALL KEEPS THE AUDIT. On a heap that passes the audit a call leaves one that passes it, of as many pages, and is not refused 12. Only finish
-- needs something besides: that the references of what it leaves are right. `does_keeps` says so of what a call does past its entry, `keeps` of the
-- call. Below the two stand the calls, one by one.
use Prim.Native.Nat.{ℕ, ◌+◌, ◌*◌, ◌≤◌, ◌<◌}
use mathlib.Core.List.{List}
use mathlib.Core.Bool.{Bool, true, false, cond, ◌&&◌}
use mathlib.Core.Logic.{inl, ◌≢◌}
use mathlib.Core.Path.{◌≡◌, refl, ◌∙◌}
use native.Mathlib.Omega.{arith}
use lib.ListN.{set}
use lib.Dec.{T, eqb, ltb}
use borrow.Author.Tests.{eqb-true, ltb-true, ltb-false, eq-eqb, leb-false}
use Rattle.model.specs.Memory.{Heap, good_buffers, choose, with_arena, with_bits, with_roots, with_table, set_root, slot, global, state, globals_state, phase, word, words, slot_at, global_at, state_at, address_of, nil, stack_count, slot_count, global_count, globals_state_at, phase_at, page_words, unswept_flag, open_state, gray_state, closed, off, mark, sweep}
use Rattle.model.specs.Bitmaps.{is, allocated, gray, pointer}
use Rattle.model.specs.Answers.{Outcome, outcome, refusal, damaged, ◌given◌, ◌or_else◌}
use Rattle.model.specs.Classes.{class_of, kind_of, pages_for, element_words_of}
use Rattle.model.specs.Spans.{owner, page_count, kind_entry, starts_span, is_unswept, kept}
use Rattle.model.specs.Checks.{buffers_refusal, phase_refusal, open_refusal, closed_refusal, slot_refusal, slots_refusal, global_refusal, pointer_refusal, number_refusal, record_at}
use Rattle.model.specs.Shading.{barrier, shade_count}
use Rattle.model.specs.Allocate.{allocate, place_record, new_bits, new_table, new_word, allocate_refusal, room_refusal, room_sweeps, swept_for_room}
use Rattle.model.specs.Records.{setup, fresh, open_stack, close_stack, emptied, copy, clear, load, store, put, get, load_global, store_global}
use Rattle.model.specs.Cycle.{start, scan, scan_stack, scan_globals, mark_step, finish, sweep_step, first_gray, first_unswept, scan_record, finish_refusal, freed_count, nothing_left, swept_span}
use Rattle.model.specs.Calls.{entry, entry_refusal, asks_audit, does, run}
use Rattle.model.specs.declared.Call.{Call}
use Rattle.model.specs.declared.Call.TheVariants.{Setup, Audit, Start, ScanGlobals, MarkStep, Finish, SweepStep, Open, Close, ScanStack, Clear, Copy, Get, LoadGlobal, StoreGlobal, Allocate, Load, Store, Put}
use Rattle.model.specs.Facts.{Audited, IsSpan, References}
use Rattle.model.specs.declared.Answer.{Answer}
use Rattle.model.specs.declared.Answer.TheVariants.{Refused, Done, Value, Swept}
use Rattle.model.proofs.Tests.{is_true, of_true}
use Rattle.model.proofs.Bounded.{first_props}
use Rattle.model.proofs.Rules.{tests}
use Rattle.model.proofs.Classes.{takes}
use Rattle.model.proofs.Bitmaps.{bit_inside}
use Rattle.model.proofs.Spans.{fits}
use Rattle.model.proofs.Named.{kept_element}
use Rattle.model.proofs.Facts.{pointer_word}
use Rattle.model.proofs.Audit.{sized_good}
use Rattle.model.specs.Room.{Sweeps}
use Rattle.model.proofs.Sweeps.{room_sweeps_lem, last_pages, still_allocates}
use Rattle.model.proofs.Checks.{passes, or_else_iff, open_passed, slot_passed, slots_passed, global_passed, pointer_passed, number_passed, Allocates, allocate_passed, room_passed, finish_passed, entry_passes}
use Rattle.keeps.proofs.Refusals.{phase_not, open_not, closed_not, slot_not, slots_not, global_not, pointer_not, field_not, allocate_not, room_not, scan_not, finish_not}
use Rattle.keeps.proofs.Roots.{Refers, slot_kept, emptied_kept, started, started_kept, ended_kept}
use Rattle.keeps.proofs.Shaded.{store_kept, store_global_kept, put_kept, scan_stack_kept, scan_globals_kept, mark_kept}
use Rattle.keeps.proofs.Allotted.{allotted}
use Rattle.keeps.proofs.Allocated.{choice, chosen_kept}
use Rattle.keeps.proofs.Swept.{swept_kept, sweeps_kept}
use Rattle.keeps.proofs.Fresh.{fresh_kept}
use Rattle.keeps.proofs.Finished.{finished, finish_kept}

-- what an outcome on h keeps
pub record Keeps (h : Heap) (o : Outcome) : Type 0 where
  pub pages : o.heap.pages ≡ h.pages
  pub audited : Audited o.heap
  pub sound : refusal o.answer ≢ damaged

-- an outcome by its refusal: a refused call leaves all as it is
by_refusal : {h : Heap} → Audited h → (n : ℕ) → n ≢ damaged → (a : Answer) (done : Heap) → refusal a ≢ damaged → done.pages ≡ h.pages →
    (n ≡ 0 → Audited done) → Keeps h (outcome n h a done)
by_refusal {h} F n d a done z e f = go (eqb n 0) refl
  where
    go : (b : Bool) → eqb n 0 ≡ b → Keeps h (record { answer = cond b a (Refused n); heap = choose b done h })
    go true p = record { pages = e; audited = f (eqb-true n 0 p); sound = z }
    go false p = record { pages = e; audited = rw e F; sound = d }

-- the gray record and the unswept span that the searches find
pub gray_found : (h : Heap) → first_gray h < words h → T (is gray h (first_gray h))
unfolding first_gray
gray_found h l = is_true _ ((first_props (words h) (is gray h)).holds l)

pub unswept_found : (P : ℕ) (t : List ℕ) → first_unswept P t < P → IsSpan t (first_unswept P t) × (unswept_flag ≤ kind_entry t (first_unswept P t))
unfolding first_unswept
unswept_found P t l = simp tests at (is_true (starts_span t (first_unswept P t) && is_unswept t (first_unswept P t)) ((first_props P (λ s. starts_span t s && is_unswept t s)).holds l))

pub none_unswept : {h : Heap} → Audited h → h.pages ≤ first_unswept h.pages h.table → (s : ℕ) → IsSpan h.table s → kind_entry h.table s < unswept_flag
unfolding first_unswept
none_unswept {h} F l s i =
    let f = first_props h.pages (λ s. starts_span h.table s && is_unswept h.table s) in
    let b = f.before s (omega (arith, F.spans.inside s i, fits F.spans s i)) in
    leb-false unswept_flag (kind_entry h.table s) (rw (eq-eqb (owner h.table s) (s + 1) i) at b)

-- a record put in its place, on the heap that the sweeps for it have left
pub place_pages : (h : Heap) (s i size p : ℕ) → (place_record h s i size p).heap.pages ≡ h.pages
unfolding place_record
place_pages h s i size p = refl

place_keeps : {h : Heap} → Audited h → (s i size p : ℕ) → Allocates h s i size p → Keeps h (place_record h s i size p)
unfolding place_record new_bits
place_keeps {h} F s i size p x = by_refusal F (room_refusal h (kind_of size p) (pages_for size)) (room_not h (kind_of size p) (pages_for size)) (Value (address_of w))
    (allotted s i w (element_words_of (class_of size) (pages_for size)) p (with_table (new_table h (kind_of size p) (pages_for size)) h)) (omega arith) refl (λ e.
    let o = x.stack in
    let room = room_passed h (kind_of size p) (pages_for size) e in
    chosen_kept F (choice F size p (takes size p x.some x.limit x.pointers) room) s i o.below x.slot o.is_open)
  where
    w : ℕ
    w = new_word h (kind_of size p) (pages_for size)

module _ {h : Heap} (F : Audited h) where
  -- what a slot holds, and what a record in one names
  pub slot_refers : (s i : ℕ) → s < stack_count → i < slot_count → Refers h (slot h s i)
  slot_refers s i a b = F.references.root (slot_at s i) (omega arith)

  pub global_refers : (g : ℕ) → g < global_count → Refers h (global h g)
  global_refers g a = F.references.root (global_at g) (omega arith)

  pub record_named : (s j : ℕ) → s < stack_count → j < slot_count → slot h s j ≢ 0 →
      T (is allocated h (record_at h s j)) × T (kept h (record_at h s j)) × (record_at h s j < page_words * h.pages)
  record_named s j a b d = kept_element F.bits (slot h s j) d (slot_refers s j a b)

  open_keeps : (s : ℕ) → Keeps h (open_stack h s)
  unfolding open_stack emptied
  open_keeps s = by_refusal F (closed_refusal h s) (closed_not h s) Done (emptied h s open_state) (omega arith) refl
      (λ e. let x = simp passes at e in emptied_kept F s open_state x.0 (omega arith))

  close_keeps : (s : ℕ) → Keeps h (close_stack h s)
  unfolding close_stack emptied
  close_keeps s = by_refusal F (open_refusal h s) (open_not h s) Done (emptied h s closed) (omega arith) refl
      (λ e. emptied_kept F s closed (open_passed h s e).below (omega arith))

  -- slot i of stack s becomes v
  slot_keeps : (n : ℕ) → n ≢ damaged → (s i v : ℕ) → (n ≡ 0 → Audited (set_root (slot_at s i) v h)) → Keeps h (outcome n h (Value v) (set_root (slot_at s i) v h))
  slot_keeps n d s i v f = by_refusal F n d (Value v) (set_root (slot_at s i) v h) (omega arith) refl f

  copy_keeps : (s i j : ℕ) → Keeps h (copy h s i j)
  unfolding copy
  copy_keeps s i j = slot_keeps (slots_refusal h s i j) (slots_not h s i j) s i (slot h s j) (λ e.
      let x = slots_passed h s i j e in let o = x.0 in slot_kept F s i (slot h s j) o.below x.1 o.is_open (slot_refers s j o.below x.2))

  clear_keeps : (s i : ℕ) → Keeps h (clear h s i)
  unfolding clear
  clear_keeps s i = slot_keeps (slot_refusal h s i) (slot_not h s i) s i nil (λ e.
      let x = slot_passed h s i e in let o = x.0 in slot_kept F s i nil o.below x.1 o.is_open (inl refl))

  load_global_keeps : (s i g : ℕ) → Keeps h (load_global h s i g)
  unfolding load_global
  load_global_keeps s i g = slot_keeps (global_refusal h s i g) (global_not h s i g) s i (global h g) (λ e.
      let x = global_passed h s i g e in let o = x.0 in slot_kept F s i (global h g) o.below x.1 o.is_open (global_refers g x.2))

  load_keeps : (s i j f : ℕ) → Keeps h (load h s i j f)
  unfolding load
  load_keeps s i j f = slot_keeps (pointer_refusal h s i j f) (pointer_not h s i j f) s i (word h (record_at h s j + f)) (λ e.
      let x = pointer_passed h s i j f e in let o = x.stack in
      let n = record_named s j o.below x.slot x.named in
      slot_kept F s i (word h (record_at h s j + f)) o.below x.other o.is_open (pointer_word F (record_at h s j) n.0 n.1 f x.field).1)

  store_keeps : (s j f k : ℕ) → Keeps h (store h s j f k)
  unfolding store
  store_keeps s j f k = by_refusal F (pointer_refusal h s k j f) (pointer_not h s k j f) Done
      (with_arena (set h.arena (record_at h s j + f) (slot h s k)) (with_bits (barrier h (word h (record_at h s j + f)) (slot h s k)) h)) (omega arith) refl (λ e.
      let x = pointer_passed h s k j f e in let o = x.stack in
      let n = record_named s j o.below x.slot x.named in
      let p = pointer_word F (record_at h s j) n.0 n.1 f x.field in
      store_kept F (record_at h s j + f) (slot h s k) (bit_inside (page_words * h.pages) pointer h.bits (record_at h s j + f) p.0)
      (slot_refers s k o.below x.other) p.1)

  store_global_keeps : (s g i : ℕ) → Keeps h (store_global h s g i)
  unfolding store_global
  store_global_keeps s g i = by_refusal F (global_refusal h s i g) (global_not h s i g) Done
      (set_root (global_at g) (slot h s i) (with_bits (barrier h (global h g) (slot h s i)) h)) (omega arith) refl (λ e.
      let x = global_passed h s i g e in let o = x.0 in store_global_kept F g (slot h s i) x.2 (slot_refers s i o.below x.1))

  put_keeps : (s j f v : ℕ) → Keeps h (put h s j f v)
  unfolding put
  put_keeps s j f v = by_refusal F (number_refusal h s j f) (field_not h s j f) Done (with_arena (set h.arena (record_at h s j + f) v) h) (omega arith) refl (λ e.
      let x = number_passed h s j f e in let o = x.stack in
      put_kept F (record_at h s j) f v (record_named s j o.below x.slot x.named).0 x.low x.high)

  get_keeps : (s j f : ℕ) → Keeps h (get h s j f)
  unfolding get
  get_keeps s j f = by_refusal F (number_refusal h s j f) (field_not h s j f) (Value (word h (record_at h s j + f))) h (omega arith) refl (λ e. F)

  -- an allocation: refused before any sweep, or made on the heap that its sweeps leave
  allocate_keeps : (s i size p : ℕ) → Keeps h (allocate h s i size p)
  unfolding allocate
  allocate_keeps s i size p = go (eqb (allocate_refusal h s i size p) 0) refl
    where
      g : Heap
      g = swept_for_room h size p

      S : Sweeps h (room_sweeps (kind_of size p) (pages_for size) h)
      S = room_sweeps_lem (kind_of size p) (pages_for size) h

      go : (b : Bool) → eqb (allocate_refusal h s i size p) 0 ≡ b →
          Keeps h (record { answer = cond b (place_record g s i size p).answer (Refused (allocate_refusal h s i size p)); heap = choose b (place_record g s i size p).heap h })
      go true e =
          let x = allocate_passed h s i size p (eqb-true (allocate_refusal h s i size p) 0 e) in
          let K = place_keeps (sweeps_kept S F) s i size p (still_allocates S x) in
          record { pages = K.pages ∙ last_pages S; audited = K.audited; sound = K.sound }
      go false e = record { pages = place_pages g s i size p ∙ last_pages S; audited = rw (place_pages g s i size p, last_pages S) F; sound = allocate_not h s i size p }

  start_keeps : Keeps h (start h)
  unfolding start
  start_keeps = by_refusal F (phase_refusal h off) (phase_not h off) Done (with_roots (started h) h) (omega arith) refl (λ e. started_kept F (simp passes at e))

  scan_stack_keeps : (s : ℕ) → Keeps h (scan_stack h s)
  unfolding scan_stack
  scan_stack_keeps s = by_refusal F (phase_refusal h mark or_else open_refusal h s) (scan_not h s)
      (Value (cond (eqb (state h s) gray_state) (shade_count h.pages h.table slot_count (slot h s) h.bits) 0))
      (choose (eqb (state h s) gray_state) (scan slot_count (slot h s) (state_at s) h) h) (omega arith) refl (λ e.
      let x = (or_else_iff (phase_refusal h mark) (open_refusal h s)).0 e in go (eqb (state h s) gray_state) (simp passes at x.0) (open_passed h s x.1).below (open_passed h s x.1).is_open)
    where
      go : (b : Bool) → phase h ≡ mark → s < stack_count → state h s ≢ closed → Audited (choose b (scan slot_count (slot h s) (state_at s) h) h)
      go true one l o = scan_stack_kept F one s l o
      go false one l o = F

  scan_globals_keeps : Keeps h (scan_globals h)
  unfolding scan_globals
  scan_globals_keeps = by_refusal F (phase_refusal h mark) (phase_not h mark)
      (Value (cond (eqb (globals_state h) gray_state) (shade_count h.pages h.table global_count (global h) h.bits) 0))
      (choose (eqb (globals_state h) gray_state) (scan global_count (global h) globals_state_at h) h) (omega arith) refl
      (λ e. go (eqb (globals_state h) gray_state) (simp passes at e))
    where
      go : (b : Bool) → phase h ≡ mark → Audited (choose b (scan global_count (global h) globals_state_at h) h)
      go true one = scan_globals_kept F one
      go false one = F

  mark_step_keeps : Keeps h (mark_step h)
  unfolding mark_step
  mark_step_keeps = by_refusal F (phase_refusal h mark) (phase_not h mark) (Value (cond (ltb (first_gray h) (words h)) (address_of (first_gray h)) 0))
      (choose (ltb (first_gray h) (words h)) (with_bits (scan_record (first_gray h) h) h) h) (omega arith) refl
      (λ e. go (ltb (first_gray h) (words h)) refl (simp passes at e))
    where
      go : (b : Bool) → ltb (first_gray h) (words h) ≡ b → phase h ≡ mark → Audited (choose b (with_bits (scan_record (first_gray h) h) h) h)
      go true e one = mark_kept F one (first_gray h) (gray_found h (ltb-true (first_gray h) (words h) e))
      go false e one = F

  sweep_step_keeps : Keeps h (sweep_step h)
  unfolding sweep_step
  sweep_step_keeps = by_refusal F (phase_refusal h sweep) (phase_not h sweep)
      (cond (ltb s h.pages) (Swept (s + 1) (freed_count h s) (cond (nothing_left h s) (page_count h.table s) 0)) (Swept 0 0 0))
      (choose (ltb s h.pages) (swept_span s h) (set_root phase_at off h)) (answers (ltb s h.pages)) refl (λ e. go (ltb s h.pages) refl (simp passes at e))
    where
      s : ℕ
      s = first_unswept h.pages h.table

      answers : (b : Bool) → refusal (cond b (Swept (s + 1) (freed_count h s) (cond (nothing_left h s) (page_count h.table s) 0)) (Swept 0 0 0)) ≢ damaged
      answers true = omega arith
      answers false = omega arith

      go : (b : Bool) → ltb s h.pages ≡ b → phase h ≡ sweep → Audited (choose b (swept_span s h) (set_root phase_at off h))
      go true e two = let x = unswept_found h.pages h.table (ltb-true s h.pages e) in swept_kept F s x.0 x.1 two
      go false e two = ended_kept F two (none_unswept F (ltb-false s h.pages e))

  finish_keeps : (finish_refusal h ≡ 0 → References (finished h)) → Keeps h (finish h)
  unfolding finish
  finish_keeps r = by_refusal F (finish_refusal h) (finish_not h) Done (finished h) (omega arith) refl (λ e. finish_kept F (finish_passed h e) (r e))

  setup_keeps : Keeps h (setup h)
  unfolding setup fresh
  setup_keeps = record { pages = refl; audited = fresh_kept h F.sized; sound = omega arith }

  -- THE LAW, of what a call does past its entry
  pub does_keeps : (c : Call) → (c ≡ Finish → finish_refusal h ≡ 0 → References (finished h)) → Keeps h (does h c)
  does_keeps Setup r = setup_keeps
  does_keeps Audit r = record { pages = refl; audited = F; sound = omega arith }
  does_keeps (Open s) r = open_keeps s
  does_keeps (Close s) r = close_keeps s
  does_keeps (Allocate s i size p) r = allocate_keeps s i size p
  does_keeps (Copy s i j) r = copy_keeps s i j
  does_keeps (Clear s i) r = clear_keeps s i
  does_keeps (Load s i j f) r = load_keeps s i j f
  does_keeps (Store s j f k) r = store_keeps s j f k
  does_keeps (Put s j f v) r = put_keeps s j f v
  does_keeps (Get s j f) r = get_keeps s j f
  does_keeps (LoadGlobal s i g) r = load_global_keeps s i g
  does_keeps (StoreGlobal s g i) r = store_global_keeps s g i
  does_keeps Start r = start_keeps
  does_keeps (ScanStack s) r = scan_stack_keeps s
  does_keeps ScanGlobals r = scan_globals_keeps
  does_keeps MarkStep r = mark_step_keeps
  does_keeps Finish r = finish_keeps (r refl)
  does_keeps SweepStep r = sweep_step_keeps

  -- an audited heap passes every call's entry
  pub entered : (c : Call) → entry_refusal h c ≡ 0
  unfolding ◌given◌
  entered c = go (asks_audit c)
    where
      passed : buffers_refusal h ≡ 0
      passed = rw (of_true (good_buffers h) (sized_good h F.sized))

      go : (b : Bool) → cond b (entry h) (buffers_refusal h) ≡ 0
      go true = entry_passes h F
      go false = passed

  -- THE LAW, of the call
  pub keeps : (c : Call) → (c ≡ Finish → finish_refusal h ≡ 0 → References (finished h)) → Keeps h (run h c)
  keeps c r = rw (entered c) (does_keeps c r)

  -- .. which is no question for any call but finish
  pub keeps_all : (c : Call) → c ≢ Finish → Keeps h (run h c)
  keeps_all c d = keeps c (λ e. absurd (d e))

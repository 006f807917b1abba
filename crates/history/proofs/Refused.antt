-- DEMAND 1 on refused calls: on any buffers a refused call leaves every word as the sweeps inside it left it, and only an allocation that is refused 9
-- has swept.
use Prim.Native.Nat.{ℕ, ◌+◌}
use mathlib.Core.Bool.{Bool, true, false, not, cond}
use mathlib.Core.List.{List, [], ◌∷◌}
use mathlib.Core.Logic.{◌⊎◌, inl, inr, ◌≢◌}
use mathlib.Core.Path.{◌≡◌, refl}
use lib.ListN.{set}
use lib.Dec.{eqb, ltb}
use Rattle.model.specs.Memory.{Heap, lent, choose, put_words, slot_at, set_root, address_of, phase_at, off, mark, sweep}
use Rattle.model.specs.Answers.{Outcome, outcome, refusal, ◌given◌, ◌or_else◌, no_room}
use Rattle.model.specs.Classes.{class_of, kind_of, pages_for, element_words_of}
use Rattle.model.specs.Spans.{page_count}
use Rattle.model.specs.Checks.{phase_refusal, open_refusal, closed_refusal, slot_refusal, slots_refusal, global_refusal, pointer_refusal, number_refusal}
use Rattle.model.specs.Allocate.{allocate, allocate_refusal, allocate_sweeps, place_record, new_bits, new_table, new_word, room_refusal, room_for, last_of, room_sweeps, swept_for_room}
use Rattle.model.specs.Records.{setup, open_stack, close_stack, copy, clear, load, store, put, get, load_global, store_global}
use Rattle.model.specs.Cycle.{start, scan_stack, scan_globals, mark_step, finish, sweep_step, swept_span, first_unswept, freed_count, nothing_left, finish_refusal}
use Rattle.model.specs.Calls.{entry, entry_refusal, does, run, sweeps_in}
use Rattle.model.specs.declared.Call.{Call}
use Rattle.model.specs.declared.Call.TheVariants.{Setup, Audit, Start, ScanGlobals, MarkStep, Finish, SweepStep, Open, Close, ScanStack, Clear, Copy, Get, LoadGlobal, StoreGlobal, Allocate, Load, Store, Put}
use Rattle.model.specs.declared.Answer.{Answer}
use Rattle.model.specs.declared.Answer.TheVariants.{Refused, Value, Swept}
use Rattle.history.specs.Ledger.{on_pages}
use Rattle.history.proofs.Runs.{IsAllocation, allocation}

-- an outcome that, if it is refused, leaves the words of h alone
record Spares (P : ℕ) (h : Heap) (o : Outcome) : Type 0 where
  pub same : refusal o.answer ≢ 0 → on_pages P o.heap ≡ on_pages P h

-- refused by its own number, or by what is done where that is 0
by_refusal : (P n : ℕ) (h : Heap) (a : Answer) (done : Heap) → Spares P h (record { answer = a; heap = done }) → Spares P h (outcome n h a done)
by_refusal P n h a done f = go (eqb n 0)
  where
    go : (b : Bool) → Spares P h (record { answer = cond b a (Refused n); heap = choose b done h })
    go true = f
    go false = record { same = λ _. refl }

module _ (P : ℕ) (h : Heap) where
  -- an answer that is no refusal
  plain : (a : Answer) (g : Heap) → refusal a ≡ 0 → Spares P h (record { answer = a; heap = g })
  plain a g e = record { same = λ d. absurd (d e) }

  -- a call that sweeps nothing inside, by its refusal
  alone : (n : ℕ) (a : Answer) (done : Heap) → refusal a ≡ 0 → Spares P h (outcome n h a done)
  alone n a done e = by_refusal P n h a done (plain a done e)

  sweep_spares : Spares P h (sweep_step h)
  unfolding sweep_step
  sweep_spares =
      by_refusal P (phase_refusal h sweep) h (swept (ltb s h.pages)) (choose (ltb s h.pages) (swept_span s h) (set_root phase_at off h))
      (record { same = λ d. absurd (d (none (ltb s h.pages))) })
    where
      s : ℕ
      s = first_unswept h.pages h.table

      swept : Bool → Answer
      swept b = cond b (Swept (s + 1) (freed_count h s) (cond (nothing_left h s) (page_count h.table s) 0)) (Swept 0 0 0)

      none : (b : Bool) → refusal (swept b) ≡ 0
      none true = refl
      none false = refl

  -- every call but an allocation
  by_call : (c : Call) → ((sweeps_in h c ≡ []) × Spares P h (does h c)) ⊎ IsAllocation c
  unfolding sweeps_in setup open_stack close_stack copy clear load store put get load_global store_global start scan_stack scan_globals mark_step finish
  by_call Setup = inl (refl, plain _ _ refl)
  by_call Audit = inl (refl, plain _ _ refl)
  by_call (Open s) = inl (refl, alone (closed_refusal h s) _ _ refl)
  by_call (Close s) = inl (refl, alone (open_refusal h s) _ _ refl)
  by_call (Allocate s i size p) = inr (allocation s i size p)
  by_call (Copy s i j) = inl (refl, alone (slots_refusal h s i j) _ _ refl)
  by_call (Clear s i) = inl (refl, alone (slot_refusal h s i) _ _ refl)
  by_call (Load s i j f) = inl (refl, alone (pointer_refusal h s i j f) _ _ refl)
  by_call (Store s j f k) = inl (refl, alone (pointer_refusal h s k j f) _ _ refl)
  by_call (Put s j f v) = inl (refl, alone (number_refusal h s j f) _ _ refl)
  by_call (Get s j f) = inl (refl, alone (number_refusal h s j f) _ _ refl)
  by_call (LoadGlobal s i g) = inl (refl, alone (global_refusal h s i g) _ _ refl)
  by_call (StoreGlobal s g i) = inl (refl, alone (global_refusal h s i g) _ _ refl)
  by_call Start = inl (refl, alone (phase_refusal h off) _ _ refl)
  by_call (ScanStack s) = inl (refl, alone (phase_refusal h mark or_else open_refusal h s) _ _ refl)
  by_call ScanGlobals = inl (refl, alone (phase_refusal h mark) _ _ refl)
  by_call MarkStep = inl (refl, alone (phase_refusal h mark) _ _ refl)
  by_call Finish = inl (refl, alone (finish_refusal h) _ _ refl)
  by_call SweepStep = inl (refl, sweep_spares)

-- an allocation: refused at its entry, before any sweep, or after all of them
module _ (P : ℕ) (h : Heap) (s i size p : ℕ) where
  abbrev kind : ℕ
  kind = kind_of size p

  abbrev n : ℕ
  n = pages_for size

  abbrev g : Heap
  g = swept_for_room h size p

  -- what the two claims say of an answer, a heap that is left, and the heaps after the sweeps
  abbrev Says : Answer → Heap → List Heap → Type 0
  Says a done gs = (refusal a ≢ 0 → on_pages P done ≡ on_pages P (last_of h gs)) × (refusal a ≢ 0 → refusal a ≢ no_room → gs ≡ [])

  -- after the sweeps: no room, or the record in its place
  placed : Says (place_record g s i size p).answer (place_record g s i size p).heap (room_sweeps kind n h)
  unfolding place_record room_refusal ◌given◌
  placed = go (room_for g kind n)
    where
      done : Heap
      done = lent g.pages (put_words (new_word g kind n) (element_words_of (class_of size) n) (λ v. 0) g.arena) (new_table g kind n) (new_bits g (new_word g kind n) p)
          (set g.roots (slot_at s i) (address_of (new_word g kind n)))

      go : (b : Bool) → let m = cond (not b) no_room 0 in
          Says (cond (eqb m 0) (Value (address_of (new_word g kind n))) (Refused m)) (choose (eqb m 0) done g) (room_sweeps kind n h)
      go true = (λ d. absurd (d refl), λ d. absurd (d refl))
      go false = (λ _. refl, λ _ d. absurd (d refl))

  allocate_says : Says (run h (Allocate s i size p)).answer (run h (Allocate s i size p)).heap (sweeps_in h (Allocate s i size p))
  unfolding sweeps_in allocate allocate_sweeps last_of
  allocate_says = go (eqb (entry h) 0) (eqb (allocate_refusal h s i size p) 0)
    where
      o : Outcome
      o = place_record g s i size p

      go : (a b : Bool) →
          Says (cond a (cond b o.answer (Refused (allocate_refusal h s i size p))) (Refused (entry h))) (choose a (choose b o.heap h) h)
          (cond a (cond b (room_sweeps kind n h) []) [])
      go true true = placed
      go true false = (λ _. refl, λ _ _. refl)
      go false b = (λ _. refl, λ _ _. refl)

-- THE LAWS
module _ (P : ℕ) (h : Heap) (c : Call) where
  pub refused_spares : refusal (run h c).answer ≢ 0 → on_pages P (run h c).heap ≡ on_pages P (last_of h (sweeps_in h c))
  unfolding last_of
  refused_spares = go (by_call P h c)
    where
      go : {c : Call} → ((sweeps_in h c ≡ []) × Spares P h (does h c)) ⊎ IsAllocation c → refusal (run h c).answer ≢ 0 →
          on_pages P (run h c).heap ≡ on_pages P (last_of h (sweeps_in h c))
      go {c} (inl x) = rw x.0 (by_refusal P (entry_refusal h c) h (does h c).answer (does h c).heap x.1).same
      go (inr (allocation s i size p)) = (allocate_says P h s i size p).0

  pub refused_quiet : refusal (run h c).answer ≢ 0 → refusal (run h c).answer ≢ no_room → sweeps_in h c ≡ []
  refused_quiet = go (by_call P h c)
    where
      go : {c : Call} → ((sweeps_in h c ≡ []) × Spares P h (does h c)) ⊎ IsAllocation c → refusal (run h c).answer ≢ 0 → refusal (run h c).answer ≢ no_room →
          sweeps_in h c ≡ []
      go (inl x) = λ _ _. x.0
      go (inr (allocation s i size p)) = (allocate_says P h s i size p).1

-- the last of some heaps, by its buffers: the P of the first does not count
pub last_buffers : (P q : ℕ) (h : Heap) (gs : List Heap) → on_pages P (last_of (on_pages q h) gs) ≡ on_pages P (last_of h gs)
unfolding last_of
last_buffers P q h [] = refl
last_buffers P q h (g ∷ gs) = refl

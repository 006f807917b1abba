-- A request, with its own P, on buffers of P pages that pass the audit: with another P it is refused by the lengths, else it is its call. `made`
-- says what it comes to: the sweeps inside it, and then the call on the heap that they leave.
use Prim.Native.Nat.{ℕ}
use mathlib.Core.Bool.{Bool, true, false, cond}
use mathlib.Core.List.{List, [], map}
use mathlib.Core.Logic.{◌⊎◌, inl, inr, ◌≢◌}
use mathlib.Core.Path.{◌≡◌, refl, subst}
use native.Mathlib.Omega.{arith}
use lib.Dec.{eqb}
use borrow.Author.Tests.{eqb-true, eqb-false}
use Rattle.marking.proofs.Operations.{State}
use Rattle.marking.proofs.Represents.{Layout}
use Rattle.marking.specs.Ledger.{Ledger}
use Rattle.marking.specs.Trace
use Rattle.marking.proofs.Agreement.{Agrees}
use Rattle.model.specs.Memory.{Heap, good_buffers, phase, sweep}
use Rattle.model.specs.Answers.{Outcome, outcome, refusal, ◌given◌, ◌or_else◌, bad_buffers, damaged}
use Rattle.model.specs.Checks.{buffers_refusal}
use Rattle.model.specs.Records.{setup, fresh}
use Rattle.model.specs.Classes.{kind_of, pages_for}
use Rattle.model.specs.Allocate.{allocate, allocate_refusal, allocate_sweeps, room_sweeps, swept_for_room, place_record}
use Rattle.model.specs.Room
use Rattle.model.specs.Room.{Sweeps}
use Rattle.model.specs.Calls.{asks_audit, entry, does, run, Request, step, sweeps_in, sweeps_of}
use Rattle.model.specs.declared.Call.{Call}
use Rattle.model.specs.declared.Call.TheVariants.{Setup, Audit, Start, ScanGlobals, MarkStep, Finish, SweepStep, Open, Close, ScanStack, Clear, Copy, Get, LoadGlobal, StoreGlobal, Allocate, Load, Store, Put}
use Rattle.model.specs.Facts.{Audited, Sized}
use Rattle.model.specs.declared.Answer.TheVariants.{Refused}
use Rattle.model.proofs.Tests.{is_true}
use Rattle.model.proofs.Audit.{sized}
use Rattle.model.proofs.Checks.{allocate_passed, entry_passes}
use Rattle.model.proofs.Sweeps.{room_sweeps_lem, allocate_sweeps_lem, last_pages, still_allocates}
use Rattle.keeps.proofs.Swept.{sweeping, sweeps_kept}
use Rattle.keeps.proofs.Calls.{entered, keeps, place_pages}
use Rattle.history.specs.Ledger.{on_pages}
use Rattle.history.specs.Demand.{event_on, sweep_stage}
use Rattle.history.proofs.Fresh.{fresh_view}
use Rattle.history.proofs.View.{view}
use Rattle.history.proofs.Steps.{Happens, is_refused}
use Rattle.history.proofs.Stages.{Along, none, StepOn, no_sweeps, rebase, sweeps_along}
use Rattle.history.proofs.RecordCalls.{open_happens, close_happens, place_happens, copy_happens, clear_happens, load_happens, store_happens, put_happens, get_happens, load_global_happens, store_global_happens}
use Rattle.history.proofs.CycleCalls.{start_happens, scan_stack_happens, scan_globals_happens, mark_step_happens, finish_happens, finish_refers, sweep_step_happens}

-- what a call on h comes to: the sweeps inside it, each a step, and then the call on the heap that they leave
record Called (h : Heap) (c : Call) : Type 0 where
  swept : Heap
  sweeps : Along h.pages h (map sweep_stage (sweeps_in h c)) swept
  happens : Happens (on_pages h.pages swept) c (run h c).answer (run h c).heap

-- a setup, and a call on a heap that passes the audit
module _ {h : Heap} (F : Audited h) where
  setup_happens : let o = setup h in Happens h Setup o.answer o.heap
  unfolding setup
  setup_happens = record { step = Trace.Step.setup (view (fresh h)) (fresh_view h); said = tt }

  -- a call that sweeps nothing inside
  alone : {c : Call} → sweeps_in h c ≡ [] → Happens h c (does h c).answer (does h c).heap → Called h c
  alone {c} e x = record { swept = h; sweeps = rw e none; happens = rw (entered F c) x }

  -- an allocation: refused before any sweep, or made on the heap that its sweeps leave
  allocate_called : (s i size p : ℕ) → Called h (Allocate s i size p)
  unfolding sweeps_in allocate allocate_sweeps
  allocate_called s i size p = go (eqb (allocate_refusal h s i size p) 0) refl
    where
      g : Heap
      g = swept_for_room h size p

      S : Sweeps h (room_sweeps (kind_of size p) (pages_for size) h)
      S = room_sweeps_lem (kind_of size p) (pages_for size) h

      go : (b : Bool) → eqb (allocate_refusal h s i size p) 0 ≡ b → Called h (Allocate s i size p)
      go true e =
          let x = still_allocates S (allocate_passed h s i size p (eqb-true (allocate_refusal h s i size p) 0 e)) in
          record {
            swept = g;
            sweeps = rw (entry_passes h F, e) (sweeps_along S F);
            happens = rw (entry_passes h F, e)
                (subst (λ (P : ℕ). Happens (on_pages P g) (Allocate s i size p) (place_record g s i size p).answer (place_record g s i size p).heap)
                (last_pages S) (place_happens (sweeps_kept S F) s i size p x));
          }
      go false e = record {
        swept = h;
        sweeps = rw (entry_passes h F, e) none;
        happens = rw (entry_passes h F, e, place_pages g s i size p, last_pages S)
            (is_refused h (Allocate s i size p) (allocate_refusal h s i size p) (eqb-false (allocate_refusal h s i size p) 0 e));
      }

  called : (c : Call) → Called h c
  unfolding sweeps_in
  called Setup = alone refl setup_happens
  called Audit = alone refl (record { step = Trace.Step.nothing; said = tt })
  called (Open s) = alone refl (open_happens F s)
  called (Close s) = alone refl (close_happens F s)
  called (Allocate s i size p) = allocate_called s i size p
  called (Copy s i j) = alone refl (copy_happens F s i j)
  called (Clear s i) = alone refl (clear_happens F s i)
  called (Load s i j f) = alone refl (load_happens F s i j f)
  called (Store s j f k) = alone refl (store_happens F s j f k)
  called (Put s j f v) = alone refl (put_happens F s j f v)
  called (Get s j f) = alone refl (get_happens F s j f)
  called (LoadGlobal s i g) = alone refl (load_global_happens F s i g)
  called (StoreGlobal s g i) = alone refl (store_global_happens F s g i)
  called Start = alone refl (start_happens F)
  called (ScanStack s) = alone refl (scan_stack_happens F s)
  called ScanGlobals = alone refl (scan_globals_happens F)
  called MarkStep = alone refl (mark_step_happens F)
  called Finish = alone refl (finish_happens F)
  called SweepStep = alone refl (sweep_step_happens F)

-- buffers of other lengths: refused 1, and nothing changes
record Bad (P : ℕ) (h : Heap) (o : Outcome) : Type 0 where
  answer : o.answer ≡ Refused bad_buffers
  heap : on_pages P o.heap ≡ on_pages P h

bad_run : (P : ℕ) (h : Heap) → good_buffers h ≡ false → (c : Call) → Bad P h (run h c)
unfolding entry ◌given◌ ◌or_else◌
bad_run P h e c = go (asks_audit c)
  where
    go : (b : Bool) → Bad P h (outcome (cond b (entry h) (buffers_refusal h)) h (does h c).answer (does h c).heap)
    go true = record { answer = rw e; heap = rw e }
    go false = record { answer = rw e; heap = rw e }

-- only an allocation sweeps inside
pub data IsAllocation : Call → Type 0 where
  allocation : (s i size p : ℕ) → IsAllocation (Allocate s i size p)

sweeps_only : (h : Heap) (c : Call) → (sweeps_in h c ≡ []) ⊎ IsAllocation c
unfolding sweeps_in
sweeps_only h Setup = inl refl
sweeps_only h Audit = inl refl
sweeps_only h (Open s) = inl refl
sweeps_only h (Close s) = inl refl
sweeps_only h (Allocate s i size p) = inr (allocation s i size p)
sweeps_only h (Copy s i j) = inl refl
sweeps_only h (Clear s i) = inl refl
sweeps_only h (Load s i j f) = inl refl
sweeps_only h (Store s j f k) = inl refl
sweeps_only h (Put s j f v) = inl refl
sweeps_only h (Get s j f) = inl refl
sweeps_only h (LoadGlobal s i g) = inl refl
sweeps_only h (StoreGlobal s g i) = inl refl
sweeps_only h Start = inl refl
sweeps_only h (ScanStack s) = inl refl
sweeps_only h ScanGlobals = inl refl
sweeps_only h MarkStep = inl refl
sweeps_only h Finish = inl refl
sweeps_only h SweepStep = inl refl

-- .. and not where the lengths are wrong
bad_sweeps : (h : Heap) → good_buffers h ≡ false → (c : Call) → sweeps_in h c ≡ []
bad_sweeps h e c = go (sweeps_only h c)
  where
    go : {c : Call} → (sweeps_in h c ≡ []) ⊎ IsAllocation c → sweeps_in h c ≡ []
    go (inl p) = p
    go (inr (allocation s i size p)) = unfold sweeps_in entry ◌given◌ ◌or_else◌ in rw e

-- another P does not fit the lengths
other_pages : (P p : ℕ) (h : Heap) → Sized (on_pages P h) → p ≢ P → good_buffers (on_pages p h) ≡ false
other_pages P p h Z d = go (good_buffers (on_pages p h)) refl
  where
    go : (b : Bool) → good_buffers (on_pages p h) ≡ b → b ≡ false
    go true e = absurd (d (omega (arith, (sized (on_pages p h) (is_true _ e)).table, Z.table)))
    go false e = refl

-- what a request comes to: the sweeps inside it, then the call on the heap that they leave; and what it leaves passes the audit
pub record Made (P : ℕ) (h : Heap) (r : Request) : Type 0 where
  pub swept : Heap
  pub sweeps : Along P h (map sweep_stage (sweeps_of h r)) swept
  pub happens : Happens (on_pages P swept) r.call (step h r).answer (on_pages P (step h r).heap)
  pub audited : Audited (on_pages P (step h r).heap)
  pub sound : refusal (step h r).answer ≢ damaged

pub made : (P : ℕ) (h : Heap) → Audited (on_pages P h) → {L : Ledger} {S : State} {Y : Layout} → Agrees (view (on_pages P h)) L S Y → (r : Request) → Made P h r
made P h F R r = go (eqb r.pages P) refl
  where
    -- the request's P is that of the buffers
    fits : (p : ℕ) → p ≡ P → Made P h (record { pages = p; call = r.call })
    fits p z =
        let C = called F r.call in
        let A = rebase h C.sweeps in
        let X : Heap = (run (on_pages P h) r.call).heap in
        let K = keeps F r.call (λ _ p. finish_refers F R p) in
        rw z (record {
          swept = A.0;
          sweeps = A.1;
          happens = rw A.2 (subst (λ (p : ℕ). Happens (on_pages P C.swept) r.call (run (on_pages P h) r.call).answer (on_pages p X)) K.pages C.happens);
          audited = subst (λ (p : ℕ). Audited (on_pages p X)) K.pages K.audited;
          sound = K.sound;
        })

    go : (b : Bool) → eqb r.pages P ≡ b → Made P h r
    go true e = fits r.pages (eqb-true r.pages P e)
    go false e =
        let b = other_pages P r.pages h F.sized (eqb-false r.pages P e) in
        let B = bad_run P (on_pages r.pages h) b r.call in
        record {
          swept = h;
          sweeps = rw (bad_sweeps (on_pages r.pages h) b r.call) none;
          happens = rw (B.answer, B.heap) (is_refused (on_pages P h) r.call bad_buffers (omega arith));
          audited = rw B.heap F;
          sound = rw B.answer (omega arith);
        }

-- a call that sweeps nothing inside is one step
pub at_once : {P : ℕ} {h : Heap} {r : Request} → Made P h r → sweeps_of h r ≡ [] → StepOn P h (event_on h r) (step h r).heap
at_once {P} {h} {r} m e = subst (λ (g : Heap). StepOn P g (event_on h r) (step h r).heap)
    (no_sweeps (subst (λ (gs : List Heap). Along P h (map sweep_stage gs) m.swept) e m.sweeps)) m.happens.step

-- THE SWEEPS INSIDE A CALL: each sweeps one unswept span, so that outside the sweep phase there are none
inside_call : (h : Heap) (c : Call) → Sweeps h (sweeps_in h c)
inside_call h c = go (sweeps_only h c)
  where
    go : {c : Call} → (sweeps_in h c ≡ []) ⊎ IsAllocation c → Sweeps h (sweeps_in h c)
    go (inl e) = rw e Room.none
    go (inr (allocation s i size p)) = unfold sweeps_in in by (eqb (entry h) 0)
      where
        by : (a : Bool) → Sweeps h (cond a (allocate_sweeps h s i size p) [])
        by true = allocate_sweeps_lem h s i size p
        by false = Room.none

pub inside : (P : ℕ) (h : Heap) → Audited (on_pages P h) → (r : Request) → Sweeps (on_pages P h) (sweeps_of h r)
inside P h F r = go (eqb r.pages P) refl
  where
    go : (b : Bool) → eqb r.pages P ≡ b → Sweeps (on_pages P h) (sweeps_of h r)
    go true e = rw (eqb-true r.pages P e) (inside_call (on_pages P h) r.call)
    go false e = rw (bad_sweeps (on_pages r.pages h) (other_pages P r.pages h F.sized (eqb-false r.pages P e)) r.call) Room.none

pub calm : {h : Heap} {gs : List Heap} → Audited h → Sweeps h gs → phase h ≢ sweep → gs ≡ []
calm F Room.none d = refl
calm F (Room.more s i u x) d = absurd (d (sweeping F s i u))

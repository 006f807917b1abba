-- Every cycle can be brought to its end: in the mark phase some scan or mark step lowers what is left to mark until finish is accepted; in the sweep
-- phase each sweep step leaves one unswept span less.
use Prim.Native.Nat.{ℕ, zero, suc, ◌+◌, ◌≤◌, ◌<◌}
use mathlib.Core.Bool.{Bool, true, false, cond, ◌||◌}
use mathlib.Core.List.{List, [], ◌∷◌}
use mathlib.Core.Logic.{◌⊎◌, inl, inr, ◌≢◌}
use mathlib.Core.Path.{◌≡◌, refl, ◌∙◌}
use native.Mathlib.Omega.{arith}
use lib.ListN.{length, replicate}
use lib.Dec.{T, eqb, ltb}
use borrow.Author.Tests.{ltb-true, ltb-false, lt-ltb, le-ltb, eq-eqb, ne_eqb, eqb-true, eqb-false}
use Rattle.marking.specs.WordHeap.{Phase}
use Rattle.marking.specs.Event
use Rattle.marking.specs.Ledger.{Ledger, Event, feed}
use Rattle.marking.specs.Advance.{to_mark, Advances}
use Rattle.marking.proofs.Advance.{advancing}
use Rattle.marking.specs.Advance
use Rattle.marking.proofs.Freed.{Reached, reached_step}
use Rattle.model.specs.Bounded.{some_below}
use Rattle.model.specs.Memory.{Heap, phase, state, globals_state, words, stack_count, first_state, globals_state_at, phase_at, address_of, gray_state, mark, off, sweep, open_state}
use Rattle.model.specs.Answers.{◌given◌, ◌or_else◌, unfinished}
use Rattle.model.specs.Checks.{phase_refusal, open_refusal}
use Rattle.model.specs.Cycle.{swept_table, start, scan_stack, scan_globals, mark_step, finish, sweep_step, first_gray, first_unswept, finish_refusal}
use Rattle.model.specs.Calls.{run, Request, step, sweeps_in, sweeps_of, after}
use Rattle.model.specs.declared.Call.TheVariants.{Start, ScanGlobals, MarkStep, Finish, SweepStep, ScanStack}
use Rattle.model.proofs.Tests.{of_true, is_true}
use Rattle.model.proofs.Bounded.{some_iff}
use Rattle.model.specs.Facts.{Audited}
use Rattle.model.proofs.Checks.{passes, entry_passes}
use Rattle.history.specs.Ledger.{event, on_pages}
use Rattle.history.specs.Demand.{event_on}
use Rattle.history.specs.Beyond.{Collects, start_of, finish_of, sweep_of}
use Rattle.keeps.proofs.Roots.{root_other}
use Rattle.keeps.proofs.Unswept.{unswept_spans, fewer}
use Rattle.history.proofs.View.{view}
use Rattle.keeps.proofs.Calls.{unswept_found}
use Rattle.history.proofs.Stages.{StepOn, step_as}
use Rattle.history.proofs.Runs.{made, at_once}

-- a start in phase off, a finish with nothing gray
begin : {h : Heap} → Audited h → phase h ≡ off → event Start (run h Start).answer ≡ Event.start
unfolding start ◌given◌
begin {h} F e = rw (entry_passes h F, e)

done : {h : Heap} → Audited h → finish_refusal h ≡ 0 → event Finish (run h Finish).answer ≡ Event.finish
unfolding finish
done {h} F e = rw (entry_passes h F, e)

-- the calls of the mark phase that find something gray: the event, and the phase afterwards
scan_event : {h : Heap} → Audited h → phase h ≡ mark → (s : ℕ) → s < stack_count → state h s ≡ gray_state →
    (event (ScanStack s) (run h (ScanStack s)).answer ≡ Event.scan_stack s) × (phase (run h (ScanStack s)).heap ≡ mark)
unfolding scan_stack
scan_event {h} F one s l e = rw (entry_passes h F, passed, eq-eqb (state h s) gray_state e) (refl, root_other F (first_state + s) open_state (omega arith) phase_at (omega arith) ∙ one)
  where
    passed : (phase_refusal h mark or_else open_refusal h s) ≡ 0
    passed = simp passes (one, (l, λ z. absurd (omega arith)))

globals_event : {h : Heap} → Audited h → phase h ≡ mark → globals_state h ≡ gray_state →
    (event ScanGlobals (run h ScanGlobals).answer ≡ Event.scan_globals) × (phase (run h ScanGlobals).heap ≡ mark)
unfolding scan_globals
globals_event {h} F one e = rw (entry_passes h F, passed, eq-eqb (globals_state h) gray_state e) (refl, root_other F globals_state_at open_state (omega arith) phase_at (omega arith) ∙ one)
  where
    passed : phase_refusal h mark ≡ 0
    passed = simp passes one

mark_event : {h : Heap} → Audited h → phase h ≡ mark → first_gray h < words h → (event MarkStep (run h MarkStep).answer ≡ Event.mark_step) × (phase (run h MarkStep).heap ≡ mark)
unfolding mark_step
mark_event {h} F one l = rw (entry_passes h F, passed, lt-ltb (first_gray h) (words h) l, ne_eqb (address_of (first_gray h)) 0 (omega arith)) (refl, one)
  where
    passed : phase_refusal h mark ≡ 0
    passed = simp passes one

-- what is gray where finish is refused
grays : (h : Heap) → phase h ≡ mark → finish_refusal h ≢ 0 → ((s : ℕ) × (s < stack_count) × (state h s ≡ gray_state)) ⊎ ((globals_state h ≡ gray_state) ⊎ (first_gray h < words h))
unfolding finish_refusal ◌given◌ ◌or_else◌
grays h one d = go (some_below stack_count (λ s. eqb (state h s) gray_state)) refl (eqb (globals_state h) gray_state) refl (ltb (first_gray h) (words h)) refl (rw one at d)
  where
    go : (a : Bool) → some_below stack_count (λ s. eqb (state h s) gray_state) ≡ a → (b : Bool) → eqb (globals_state h) gray_state ≡ b → (c : Bool) → ltb (first_gray h) (words h) ≡ c →
        ◌≢◌ {A = ℕ} (cond (a || b || c) unfinished 0) 0 → ((s : ℕ) × (s < stack_count) × (state h s ≡ gray_state)) ⊎ ((globals_state h ≡ gray_state) ⊎ (first_gray h < words h))
    go true e b f c g n = let x = (some_iff stack_count (λ s. eqb (state h s) gray_state)).0 (is_true _ e) in inl (x.0, x.1, eqb-true (state h x.0) gray_state (of_true _ x.2))
    go false e true f c g n = inr (inl (eqb-true (globals_state h) gray_state f))
    go false e false f true g n = inr (inr (ltb-true (first_gray h) (words h) g))
    go false e false f false g n = absurd (n refl)

-- what the theory's measure needs to see
see_stack : (h : Heap) (s : ℕ) → s < stack_count → state h s ≡ gray_state → T ((view h).bits.gray_stack s)
unfolding view
see_stack h s l e = rw (lt-ltb s stack_count l, e) tt

see_globals : (h : Heap) → globals_state h ≡ gray_state → T (view h).bits.gray_globals
unfolding view
see_globals h e = rw e tt

see_mark : (h : Heap) → phase h ≡ mark → (view h).phase ≡ Phase.mark
unfolding view
see_mark h e = rw e

pub begin_event : (P : ℕ) (h : Heap) → Audited (on_pages P h) → phase h ≡ off → event_on h (start_of P) ≡ Event.start
begin_event P h F e = begin F e

-- one call of the mark phase that lowers what is left to mark
record Lowers (P : ℕ) (h : Heap) (L : Ledger) : Type 0 where
  request : Request
  collects : (rs : List Request) → Collects P rs → Collects P (request ∷ rs)
  ledger : Ledger
  counts : ℕ → ℕ
  marks : phase (step h request).heap ≡ mark
  audited : Audited (on_pages P (step h request).heap)
  reached : Reached (view (on_pages P (step h request).heap)) ledger counts
  falls : to_mark stack_count ledger (view (on_pages P (step h request).heap)) < to_mark stack_count L (view (on_pages P h))

lowers : (P : ℕ) (h : Heap) {L : Ledger} {n : ℕ → ℕ} → Audited (on_pages P h) → Reached (view (on_pages P h)) L n → phase h ≡ mark →
    finish_refusal (on_pages P h) ≢ 0 → Lowers P h L
unfolding sweeps_in
lowers P h {L} {n} F N one d = some (grays (on_pages P h) one d)
  where
    by : (r : Request) (e : Event) → sweeps_of h r ≡ [] → event_on h r ≡ e → phase (step h r).heap ≡ mark → Advances stack_count (view (on_pages P h)) e →
        ((rs : List Request) → Collects P rs → Collects P (r ∷ rs)) → Lowers P h L
    by r e z p two a c =
        let m = made P h F N.agrees r in
        let s : StepOn P h e (step h r).heap = step_as P h (step h r).heap p (at_once m z) in
        record {
          request = r;
          collects = c;
          ledger = feed e L;
          counts = _;
          marks = two;
          audited = m.audited;
          reached = reached_step s N;
          falls = (advancing N.agrees).marks stack_count (see_mark (on_pages P h) one) s a;
        }

    some : (((s : ℕ) × (s < stack_count) × (state h s ≡ gray_state)) ⊎ ((globals_state h ≡ gray_state) ⊎ (first_gray (on_pages P h) < words (on_pages P h)))) → Lowers P h L
    some (inl x) = let y = scan_event F one x.0 x.1 x.2 in
        by (record { pages = P; call = ScanStack x.0 }) (Event.scan_stack x.0) refl y.0 y.1
        (Advance.scan x.0 x.1 (see_stack (on_pages P h) x.0 x.1 x.2)) (λ rs c. Collects.scans x.0 c)
    some (inr (inl x)) = let y = globals_event F one x in
        by (record { pages = P; call = ScanGlobals }) Event.scan_globals refl y.0 y.1 (Advance.globals (see_globals (on_pages P h) x)) (λ rs c. Collects.globals c)
    some (inr (inr x)) = let y = mark_event F one x in
        by (record { pages = P; call = MarkStep }) Event.mark_step refl y.0 y.1 Advance.step (λ rs c. Collects.marks c)

-- THE MARK PHASE: k is at least what is left to mark
pub record Finishing (P k : ℕ) (h : Heap) : Type 0 where
  pub calls : List Request
  pub collects : Collects P calls
  pub short : length calls ≤ k
  pub finish : event_on (after h calls) (finish_of P) ≡ Event.finish

pub finishing : (P k : ℕ) (h : Heap) {L : Ledger} {n : ℕ → ℕ} → Audited (on_pages P h) → Reached (view (on_pages P h)) L n → phase h ≡ mark →
    to_mark stack_count L (view (on_pages P h)) ≤ k → Finishing P k h
unfolding after
finishing P zero h {L} F N one l = now (eqb (finish_refusal (on_pages P h)) 0) refl
  where
    now : (b : Bool) → eqb (finish_refusal (on_pages P h)) 0 ≡ b → Finishing P 0 h
    now true e = record { calls = []; collects = Collects.none; short = omega arith; finish = done F (eqb-true (finish_refusal (on_pages P h)) 0 e) }
    now false e = absurd (omega (arith, (lowers P h F N one (eqb-false (finish_refusal (on_pages P h)) 0 e)).falls))
finishing P (suc k) h {L} F N one l = now (eqb (finish_refusal (on_pages P h)) 0) refl
    (λ x. finishing P k (step h x.request).heap x.audited x.reached x.marks (omega (arith, x.falls)))
  where
    now : (b : Bool) → eqb (finish_refusal (on_pages P h)) 0 ≡ b → ((x : Lowers P h L) → Finishing P k (step h x.request).heap) → Finishing P (suc k) h
    now true e go = record { calls = []; collects = Collects.none; short = omega arith; finish = done F (eqb-true (finish_refusal (on_pages P h)) 0 e) }
    now false e go =
        let x = lowers P h F N one (eqb-false (finish_refusal (on_pages P h)) 0 e) in
        let y = go x in
        record { calls = x.request ∷ y.calls; collects = x.collects y.calls y.collects; short = omega (arith, y.short); finish = y.finish }

-- THE SWEEP PHASE

-- a sweep step that finds an unswept span, and one that finds none
sweep_event : {h : Heap} → Audited h → phase h ≡ sweep → first_unswept h.pages h.table < h.pages →
    (event SweepStep (run h SweepStep).answer ≡ Event.sweep_step) × (phase (run h SweepStep).heap ≡ sweep) ×
    ((run h SweepStep).heap.table ≡ swept_table h (first_unswept h.pages h.table))
unfolding sweep_step
sweep_event {h} F two l = rw (
  entry_passes h F,
  passed,
  lt-ltb (first_unswept h.pages h.table) h.pages l,
  ne_eqb (first_unswept h.pages h.table + 1) 0 (omega arith),
) (refl, two, refl)
  where
    passed : phase_refusal h sweep ≡ 0
    passed = simp passes two

end_event : {h : Heap} → Audited h → phase h ≡ sweep → h.pages ≤ first_unswept h.pages h.table → event SweepStep (run h SweepStep).answer ≡ Event.end_cycle
unfolding sweep_step
end_event {h} F two l = rw (entry_passes h F, passed, le-ltb (first_unswept h.pages h.table) h.pages l)
  where
    passed : phase_refusal h sweep ≡ 0
    passed = simp passes two

pub record Ending (P k : ℕ) (h : Heap) : Type 0 where
  pub steps : ℕ
  pub few : steps ≤ k
  pub end : event_on (after h (replicate steps (sweep_of P))) (sweep_of P) ≡ Event.end_cycle

-- one sweep step that finds an unswept span
record Sweeps (P : ℕ) (h : Heap) : Type 0 where
  ledger : Ledger
  counts : ℕ → ℕ
  sweeps : phase (step h (sweep_of P)).heap ≡ sweep
  audited : Audited (on_pages P (step h (sweep_of P)).heap)
  reached : Reached (view (on_pages P (step h (sweep_of P)).heap)) ledger counts
  falls : unswept_spans (on_pages P (step h (sweep_of P)).heap) < unswept_spans (on_pages P h)

sweeps_one : (P : ℕ) (h : Heap) {L : Ledger} {n : ℕ → ℕ} → Audited (on_pages P h) → Reached (view (on_pages P h)) L n → phase h ≡ sweep →
    first_unswept P h.table < P → Sweeps P h
unfolding sweeps_in
sweeps_one P h {L} F N two l =
    let e = sweep_event F two l in
    let m = made P h F N.agrees (sweep_of P) in
    let u = unswept_found P h.table l in
    record {
      ledger = feed (event_on h (sweep_of P)) L;
      counts = _;
      sweeps = e.1;
      audited = m.audited;
      reached = reached_step (at_once m refl) N;
      falls = rw e.2 (fewer F (first_unswept P h.table) l u.0 u.1);
    }

pub ending : (P k : ℕ) (h : Heap) {L : Ledger} {n : ℕ → ℕ} → Audited (on_pages P h) → Reached (view (on_pages P h)) L n → phase h ≡ sweep →
    unswept_spans (on_pages P h) ≤ k → Ending P k h
unfolding after
ending P zero h F N two l = now (ltb (first_unswept P h.table) P) refl
  where
    now : (b : Bool) → ltb (first_unswept P h.table) P ≡ b → Ending P 0 h
    now true e = absurd (omega (arith, (sweeps_one P h F N two (ltb-true (first_unswept P h.table) P e)).falls))
    now false e = record { steps = 0; few = omega arith; end = end_event F two (ltb-false (first_unswept P h.table) P e) }
ending P (suc k) h F N two l = now (ltb (first_unswept P h.table) P) refl
    (λ x. ending P k (step h (sweep_of P)).heap x.audited x.reached x.sweeps (omega (arith, x.falls)))
  where
    now : (b : Bool) → ltb (first_unswept P h.table) P ≡ b → (Sweeps P h → Ending P k (step h (sweep_of P)).heap) → Ending P (suc k) h
    now true e go = let y = go (sweeps_one P h F N two (ltb-true (first_unswept P h.table) P e)) in
        record { steps = suc y.steps; few = omega (arith, y.few); end = y.end }
    now false e go = record { steps = 0; few = omega arith; end = end_event F two (ltb-false (first_unswept P h.table) P e) }

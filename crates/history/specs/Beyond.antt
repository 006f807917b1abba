-- Beyond demand 3, of the same lists: the heap never damages itself, the work of a cycle is bounded, what it frees is known exactly, and every cycle
-- can be brought to its end. The record `Beyond` is the claim; `AfterSetup`, at the end, says of which lists it and demand 3 hold, and
-- proofs/Theorem.antt proves that. To be read before it: Demand here, and Claim and Survivors of the crate marking.
use Rattle.std.specs.Prelude.{ℕ, ◌+◌, ◌≤◌, ◌<◌, Bool, ◌&&◌, List, [], ◌∷◌, ◌++◌, ◌≢◌, ◌≡◌, length, replicate, T, eqb}
use Rattle.marking.specs.Effect.{in_cycle, in_marking}
use Rattle.marking.specs.Event
use Rattle.marking.specs.Ledger.{Ledger, Event, Each, feed_all, last_born}
use Rattle.marking.specs.Claim.{work_in}
use Rattle.marking.specs.Survivors.{Saved}
use Rattle.model.specs.Bounded.{count_below}
use Rattle.model.specs.Memory.{Heap, words, phase, word_of, stack_count, off, mark, sweep}
use Rattle.model.specs.Bitmaps.{is, allocated, marked}
use Rattle.model.specs.Calls.{Request, step, sweeps_of, after}
use Rattle.model.specs.Allocate.{last_of}
use Rattle.model.specs.Room.{Sweeps, NoRoom}
use Rattle.model.specs.declared.Call.TheVariants.{Start, ScanGlobals, MarkStep, Finish, SweepStep, ScanStack}
use Rattle.model.specs.Answers.{refusal, accepted, damaged, no_room}
use Rattle.history.specs.Ledger.{on_pages}
use Rattle.history.specs.Demand.{setup_of, Stage, stages, events_of, end_of, fed, event_on, Place, answer_at, frees_in, Interval, Cycle, Demand}

-- the mark phase of a cycle, from its start to its finish
abbrev pub Marking : List Stage → Type 0
Marking = Interval Event.start in_marking Event.finish

-- a whole cycle: its mark phase, and after the finish its sweep phase with the sweep step that ends it
pub record Whole (ss : List Stage) : Type 0 where
  pub marking : Marking ss
  pub sweeping : List Stage
  pub last : Stage
  pub rest : List Stage
  pub later : marking.later ≡ sweeping ++ (last ∷ rest)
  pub sweeps : Each in_cycle (events_of sweeping)
  pub ends : last.event ≡ Event.end_cycle

-- a cycle of demand 3 as a whole cycle: from the same start to the same end
pub record Parts {ss : List Stage} (C : Cycle ss) : Type 0 where
  pub whole : Whole ss
  pub before : whole.marking.before ≡ C.before
  pub first : whole.marking.first ≡ C.first
  pub between : C.between ≡ whole.marking.between ++ (whole.marking.last ∷ whole.sweeping)
  pub last : whole.last ≡ C.last

-- a mark phase: the events from its start to its finish, the ledger at its start and at its finish, and the heap of P pages that the finish finds
abbrev pub marking_events : {ss : List Stage} → Marking ss → List Event
marking_events M = events_of M.between

abbrev pub ledger_at_start : {ss : List Stage} → Marking ss → Ledger
ledger_at_start M = fed M.before

abbrev pub ledger_at_finish : {ss : List Stage} → Marking ss → Ledger
ledger_at_finish M = feed_all (marking_events M) (ledger_at_start M)

abbrev pub heap_at_finish : ℕ → {ss : List Stage} → Marking ss → Heap
heap_at_finish P M = on_pages P (end_of M.first.heap M.between)

-- the record x is allocated: the allocated bit at its address is on, and it is the last born there; it is marked besides
abbrev pub is_allocated : Ledger → Heap → ℕ → Bool
is_allocated L h x = is allocated h (word_of (L.address x)) && eqb (last_born L (L.address x)) x

abbrev pub is_marked : Ledger → Heap → ℕ → Bool
is_marked L h x = is_allocated L h x && is marked h (word_of (L.address x))

-- the records allocated in a heap: each has one allocated bit
abbrev pub allocated_in : Heap → ℕ
allocated_in h = count_below (words h) (is allocated h)

-- scans and mark steps, on buffers of P pages
pub data Collects (P : ℕ) : List Request → Type 0 where
  none : Collects P []
  scans : (s : ℕ) {rs : List Request} → Collects P rs → Collects P (record { pages = P; call = ScanStack s } ∷ rs)
  globals : {rs : List Request} → Collects P rs → Collects P (record { pages = P; call = ScanGlobals } ∷ rs)
  marks : {rs : List Request} → Collects P rs → Collects P (record { pages = P; call = MarkStep } ∷ rs)

-- the requests that begin a cycle, end its mark phase, and sweep, on buffers of P pages
abbrev pub start_of : ℕ → Request
start_of P = record { pages = P; call = Start }

abbrev pub finish_of : ℕ → Request
finish_of P = record { pages = P; call = Finish }

abbrev pub sweep_of : ℕ → Request
sweep_of P = record { pages = P; call = SweepStep }

-- THE CLAIM about the list rs, made on buffers of P pages that an accepted setup left as h
pub record Beyond (P : ℕ) (h : Heap) (rs : List Request) : Type 0 where
  -- no call of the list is refused 12: every call keeps the audit
  pub sound : (p : Place rs) → refusal (answer_at h p) ≢ damaged
  -- "A refusal ... changes no word in any buffer": a refused call leaves every word as the sweeps inside it left it, and only a 9 has swept; [2] "the one
  -- refusal that changes words"
  pub spared : (p : Place rs) → refusal (answer_at h p) ≢ 0 →
      on_pages P (step (after h p.before) p.here).heap ≡ on_pages P (last_of (after h p.before) (sweeps_of (after h p.before) p.here))
  pub quiet : (p : Place rs) → refusal (answer_at h p) ≢ 0 → refusal (answer_at h p) ≢ no_room → sweeps_of (after h p.before) p.here ≡ []
  -- [2] "9 is given exactly when nothing fits after all that and leaves every span swept": of any allocation after the list
  pub room : (s i size q : ℕ) → NoRoom (on_pages P (after h rs)) s i size q
  -- [2] the sweeps inside a call: each sweeps one unswept span of the heap before it, and in phases off and mark there are none
  pub inside : (p : Place rs) → Sweeps (on_pages P (after h p.before)) (sweeps_of (after h p.before) p.here)
  pub outside : (p : Place rs) → phase (after h p.before) ≢ sweep → sweeps_of (after h p.before) p.here ≡ []
  -- each cycle of demand 3 has a mark phase and is whole, so that what follows is said of every one of them
  pub parts : (C : Cycle (stages h rs)) → Parts C
  -- "No cycle has more mark steps that do work than there are records allocated at its finish."
  pub work : (M : Marking (stages h rs)) → work_in (marking_events M) ≤ allocated_in (heap_at_finish P M)
  -- What a cycle frees, exactly. `Saved` says it in ledger terms alone, from the start on: a scan saves all that the scanned slots or globals reach,
  -- a store all that the old and the new value reach, a birth the record born. The records marked at the finish are those saved by then; of the
  -- records allocated then, the sweeps free each that was not saved once, and no other.
  pub marked : (M : Marking (stages h rs)) (x : ℕ) → let L = ledger_at_finish M in let saved = Saved (marking_events M) (ledger_at_start M) x in
      0 < x → x ≤ L.count → (T (is_marked L (heap_at_finish P M) x) → saved) × (saved → T (is_marked L (heap_at_finish P M) x))
  pub exact : (W : Whole (stages h rs)) (x : ℕ) → let M = W.marking in let L = ledger_at_finish M in let saved = Saved (marking_events M) (ledger_at_start M) x in
      let times = frees_in P x L M.last.heap (W.sweeping ++ (W.last ∷ [])) in
      0 < x → x ≤ L.count → T (is_allocated L (heap_at_finish P M) x) → (¬ saved → times ≡ 1) × (saved → times ≡ 0)
  -- Every cycle can be brought to its end. After the list a start is accepted, or some scans and mark steps, in all at most as many as there are
  -- stacks, one for the globals, and the allocated records, make finish accepted, or some sweep steps, no more than there are pages, leave nothing to
  -- sweep.
  pub phases : phase (after h rs) ≤ sweep
  pub begins : phase (after h rs) ≡ off → event_on (after h rs) (start_of P) ≡ Event.start
  pub finishes : phase (after h rs) ≡ mark → (cs : List Request) × Collects P cs × (length cs ≤ stack_count + 1 + allocated_in (on_pages P (after h rs))) ×
      (event_on (after (after h rs) cs) (finish_of P) ≡ Event.finish)
  pub ends : phase (after h rs) ≡ sweep → (k : ℕ) × (k ≤ P) × (event_on (after (after h rs) (replicate k (sweep_of P))) (sweep_of P) ≡ Event.end_cycle)

-- WHAT IS PROVED: after an accepted setup in any buffers h, for P pages, both claims hold of every list of requests
abbrev pub AfterSetup : Type 0
AfterSetup = (h : Heap) (P : ℕ) → T (accepted (step h (setup_of P)).answer) → (rs : List Request) →
    Demand P (step h (setup_of P)).heap rs × Beyond P (step h (setup_of P)).heap rs

-- DEMAND 3, proved: the claim of specs/Demand.antt, of every list of requests after an accepted setup.
use Prim.Native.Nat.{ℕ, suc, ◌+◌, ◌-◌, ◌≤◌, ◌<◌}
use mathlib.Core.Bool.{Bool, true, false, ◌&&◌}
use mathlib.Core.List.{List, [], ◌∷◌, ◌++◌, map, append_assoc}
use mathlib.Core.Logic.{◌≢◌}
use mathlib.Core.Path.{◌≡◌, refl, ap, sym, ◌∙◌, subst}
use native.Mathlib.Omega.{arith}
use lib.Dec.{T}
use borrow.Author.Tests.{lt-ltb}
use Rattle.marking.specs.Count
use Rattle.marking.specs.Event.{Write}
use Rattle.marking.specs.Event
use Rattle.marking.specs.Ledger.{Ledger, Event, empty, feed, Reachable, last_born}
use Rattle.marking.specs.Trace.{Fresh}
use Rattle.marking.specs.Trace
use Rattle.marking.specs.Claim
use Rattle.marking.specs.Survivors.{Saved}
use Rattle.marking.proofs.Matches
use Rattle.marking.proofs.Freed.{Reached, reached, reached_step, fresh_reached}
use Rattle.marking.specs.EveryList.{Claims}
use Rattle.marking.proofs.EveryList.{every_list}
use Rattle.marking.proofs.Allocated
use Rattle.model.specs.Memory.{Heap, words, good_buffers, word_of, address_of, stack_count, slot_count, global_count}
use Rattle.model.specs.Answers.{accepted, ◌given◌}
use Rattle.model.specs.Bitmaps.{is, allocated}
use Rattle.model.specs.Spans.{owner, starts_span, is_unswept, element_words, span_of}
use Rattle.model.specs.Records.{setup, fresh}
use Rattle.model.specs.Calls.{Request, step, sweeps_of, after}
use Rattle.model.specs.Facts.{Spans, Audited}
use Rattle.model.specs.declared.Answer.{Answer}
use Rattle.model.specs.declared.Answer.TheVariants.{Value}
use Rattle.model.proofs.Tests.{of_true, is_true}
use Rattle.model.proofs.Bounded.{count_bound}
use Rattle.model.proofs.Bitmaps.{bit_inside}
use Rattle.model.proofs.Spans.{whole}
use Rattle.model.proofs.Audit.{sized}
use Rattle.keeps.proofs.Fresh.{fresh_kept}
use Rattle.keeps.proofs.Room.{no_room_lem}
use Rattle.history.specs.Ledger.{on_pages}
use Rattle.history.specs.Demand.{setup_of, event_on, Stage, sweep_stage, stages, events_of, end_of, fed, ledger, Matches, FreePage, Pages, subject, Answered, frees_in, freed, Cycle, Demand}
use Rattle.history.specs.Beyond.{Marking, Whole, marking_events, ledger_at_start, ledger_at_finish, heap_at_finish, is_allocated, is_marked, allocated_in, Beyond, AfterSetup}
use Rattle.history.proofs.Fresh.{fresh_view}
use Rattle.history.proofs.View.{view, words_at}
use Rattle.history.proofs.Steps.{Said}
use Rattle.history.proofs.Stages.{Along, StepOn, step_as, join, at, steps, since, to_end, fed_last, parts}
use Rattle.history.proofs.Runs.{Made, made, inside, calm}
use Rattle.history.proofs.Refused.{refused_spares, refused_quiet, last_buffers}
use Rattle.history.proofs.Lists.{Course, course, stages_last}
use Rattle.history.proofs.Progress.{begin_event, finishing, ending}

-- the heap against the ledger, from the theory's words to the model's
matched : (h : Heap) {L : Ledger} {n : ℕ → ℕ} → Claim.MatchesLedger (view h) L → Reached (view h) L n → Audited h → Matches h L
unfolding view words_at
matched h {L} M N F = record {
  stacks = λ s l. rw (lt-ltb s stack_count l) at (M.opened s);
  slots = λ s i l k. rw (lt-ltb s stack_count l, lt-ltb i slot_count k) at (M.slots s i);
  globals = λ g l. rw (lt-ltb g global_count l) at (M.globals g);
  bit = M.allocated;
  inside = λ x f r l. omega (arith, N.agrees.describes.words x, element x r, whole F.spans (word_of (L.address x)) (F.bits.element (word_of (L.address x)) (M.allocated x r)), F.sized.arena);
  words = M.words;
  apart = M.apart;
  address = λ x r. let l = Matches.live N.agrees r in let e = N.agrees.describes.address x l.0 (N.agrees.invariant.allocated_born x l.1) in omega arith;
}
  where
    -- a reachable record has the words of the element at its address
    element : (x : ℕ) → Reachable L x → element_words h.table (span_of h.table (word_of (L.address x))) ≡ N.layout.words x
    element x r = rw (Matches.at_is N.agrees x (Matches.live N.agrees r)) (N.agrees.represents.placed.words x (Matches.live N.agrees r))

-- the pages
paged : (P : ℕ) (t : List ℕ) → Spans P t → Pages P t
paged P t F = record {
  free = λ g e s i. absurd (omega (arith, F.body s g i.0 i.1 i.2));
  used = λ g d. let w = F.whose g (owned g d) in (owner t g - 1, (w.0, w.1, w.2), λ r i. omega (arith, F.body r g i.0 i.1 i.2));
  zero = is_free_lem;
  inside = λ s g i. omega (arith, F.inside s i.0);
}
  where
    is_free_lem : (g : ℕ) → owner t g ≡ 0 → FreePage t g
    is_free_lem g e = let r = F.rest g (omega arith) in (e, r.0, r.1)

    owned : (g : ℕ) → ¬ (FreePage t g) → 0 < owner t g
    owned g d = let z : owner t g ≢ 0 = λ e. d (is_free_lem g e) in omega arith

-- an answer: what the call said of the heap that it leaves, and what the ledger has there
answered : (e : Event) (a : Answer) (h : Heap) (L : Ledger) → Said (subject e) a h → Claim.Answers e (view h) L → Answered (subject e) a L
answered (Event.writes (Write.reset_stack s b)) a h L g M = tt
answered (Event.writes (Write.assign s i v)) a h L g M = g ∙ ap Value (M.slots s i)
answered (Event.writes (Write.store s j f k)) a h L g M = tt
answered (Event.writes (Write.store_global s g₁ i)) a h L g M = tt
answered (Event.writes (Write.put s j f v)) a h L g M = tt
answered (Event.writes (Write.allocate s i p n b)) a h L g M = g ∙ ap Value (M.slots s i)
answered (Event.get s j f) a h L g M = g ∙ ap Value (M.got s j f refl)
answered (Event.scan_stack s) a h L g M = tt
answered Event.scan_globals a h L g M = tt
answered (Event.acts c) a h L g M = tt

-- an allocated record, seen in the view
seen_allocated : (L : Ledger) (h : Heap) (x : ℕ) → T (is_allocated L h x) → T (Claim.is_allocated L (view h) x)
unfolding view
seen_allocated L h x t = t

-- allocated records against allocated bits
records_counted : (h : Heap) {L : Ledger} {n : ℕ → ℕ} → Reached (view h) L n → Count.count (Claim.is_allocated L (view h)) (suc L.count) ≤ allocated_in h
records_counted h N = unfold view in Allocated.records_bits N.agrees (words h) (λ w t. bit_inside (words h) allocated h.bits w t)

-- after an accepted setup
module _ (P : ℕ) (h : Heap) (F : Audited (on_pages P h)) (Fr : Fresh (view (on_pages P h))) where
  pub start_reached : Reached (view (on_pages P h)) empty (λ x. 0)
  start_reached = fresh_reached (view (on_pages P h)) Fr

  pub run_of : (rs : List Request) → Course P h rs
  run_of rs = course P h F start_reached rs

  setting : StepOn P h Event.setup h
  setting = Trace.Step.setup (view (on_pages P h)) Fr

  -- the theory's claims after stages
  claims : {ss : List Stage} {h' : Heap} (A : Along P h ss h') → Claims (steps A)
  claims {ss} {h'} A = every_list (view (on_pages P h)) (view (on_pages P h)) (view (on_pages P h')) (events_of ss) setting (steps A)

  reached_at : {ss : List Stage} {h' : Heap} (A : Along P h ss h') → Reached (view (on_pages P h')) (fed ss) (λ x. Claim.freed_since x 0 empty (steps A))
  reached_at A = reached (steps A) start_reached

  -- a call after a list
  next : (rs : List Request) (r : Request) → Made P (after h rs) r
  next rs r = made P (after h rs) (run_of rs).audited (reached_at (run_of rs).along).agrees r

  -- the stages of a list, where it is cut
  cut_as : {ss ts : List Stage} {h' : Heap} → Along P h ss h' → ss ≡ ts → Along P h ts h'
  cut_as {ss} {ts} {h'} A e = subst (λ (l : List Stage). Along P h l h') e A

  -- an answer is given after the sweeps inside the call
  answer_at_lem : (before : List Request) (r : Request) → let e = event_on (after h before) r in
      Answered (subject e) (step (after h before) r).answer (ledger h (before ++ (r ∷ [])))
  answer_at_lem before r =
      let g = after h before in
      let m = next before r in
      let ss = stages h before ++ map sweep_stage (sweeps_of g r) in
      let s : Stage = record { event = event_on g r; heap = (step g r).heap } in
      rw (stages_last h before r, ← (append_assoc (stages h before) (map sweep_stage (sweeps_of g r)) (s ∷ [])), fed_last ss s empty)
      (answered (event_on g r) (step g r).answer (on_pages P (step g r).heap) (feed (event_on g r) (fed ss)) m.happens.said
      ((claims (join (run_of before).along m.sweeps)).correct.answers m.happens.step))

  -- where an allocated bit is on, a record was born, and the last of them was not freed
  frees_at : (ss : List Stage) → Along P h ss (end_of h ss) → (w : ℕ) → T (is allocated (on_pages P (end_of h ss)) w) →
      let x = last_born (fed ss) (address_of w) in (0 < x) × (x ≤ (fed ss).count) × (freed P x h ss ≡ 0)
  frees_at ss A w a = let y = seen in (y.0, y.1, since A (last_born (fed ss) (address_of w)) 0 empty ∙ y.2)
    where
      seen : let x = last_born (fed ss) (address_of w) in (0 < x) × (x ≤ (fed ss).count) × (Claim.freed_since x 0 empty (steps A) ≡ 0)
      seen = unfold view in (claims A).correct.unfreed w a

  -- a cycle: its start, the stages between, and its end
  cycle_at : {ss : List Stage} {h' : Heap} → Along P h ss h' → (C : Cycle ss) (x : ℕ) → 0 < x → x ≤ (fed C.before).count → freed P x h C.before ≡ 0 →
      ¬ (Reachable (fed C.before) x) → frees_in P x (fed C.before) C.first.heap (C.between ++ (C.last ∷ [])) ≡ 1
  cycle_at A C x z k f u =
      let s = at C.before C.first (C.between ++ (C.last ∷ C.later)) (cut_as A C.list) in
      let t = at C.between C.last C.later s.later in
      to_end t.before x (fed C.before) C.last C.ends
      ∙ (claims s.before).correct.cycles (step_as P (end_of h C.before) C.first.heap C.starts s.here) (steps t.before) C.lasts
      (step_as P (end_of C.first.heap C.between) C.last.heap C.ends t.here) x z k (sym (since s.before x 0 empty) ∙ f) u

  pub demand : (rs : List Request) → Demand P h rs
  demand rs = let R = run_of rs in record {
    matches = matched (on_pages P (after h rs)) (claims R.along).correct.matches (reached_at R.along) R.audited;
    pages = paged P (after h rs).table R.audited.spans;
    answers = λ p. answer_at_lem p.before p.here;
    sweeps = λ p w a b. frees_at p.before (at p.before p.here p.later (cut_as R.along p.list)).before w a;
    cycles = cycle_at R.along;
  }

  -- a mark phase: its start, the stages between, and its finish
  record Marks {ss : List Stage} (M : Marking ss) (h' : Heap) : Type 0 where
    before : Along P h M.before (end_of h M.before)
    start : StepOn P (end_of h M.before) Event.start M.first.heap
    between : Along P M.first.heap M.between (end_of M.first.heap M.between)
    finish : StepOn P (end_of M.first.heap M.between) Event.finish M.last.heap
    later : Along P M.last.heap M.later h'

  marks : {ss : List Stage} {h' : Heap} → Along P h ss h' → (M : Marking ss) → Marks M h'
  marks A M =
      let s = at M.before M.first (M.between ++ (M.last ∷ M.later)) (cut_as A M.list) in
      let t = at M.between M.last M.later s.later in
      record {
        before = s.before;
        start = step_as P (end_of h M.before) M.first.heap M.starts s.here;
        between = t.before;
        finish = step_as P (end_of M.first.heap M.between) M.last.heap M.ends t.here;
        later = t.later;
      }

  -- a start leaves the ledger alone
  from_start : {ss : List Stage} {g : Heap} → Along P h ss g → (k : Heap) → StepOn P g Event.start k → (n : ℕ → ℕ) × Reached (view (on_pages P k)) (fed ss) n
  unfolding feed
  from_start B k s = (_, reached_step s (reached_at B))

  work_at : {ss : List Stage} {h' : Heap} → Along P h ss h' → (M : Marking ss) → Claim.work_in (marking_events M) ≤ allocated_in (heap_at_finish P M)
  work_at A M = let m = marks A M in
      omega (
        arith,
        (claims m.before).correct.works m.start (steps m.between) M.lasts m.finish,
        records_counted (heap_at_finish P M) (reached (steps m.between) (from_start m.before M.first.heap m.start).1),
      )

  marked_at : {ss : List Stage} {h' : Heap} → Along P h ss h' → (M : Marking ss) (x : ℕ) → let L = ledger_at_finish M in
      let saved = Saved (marking_events M) (ledger_at_start M) x in
      0 < x → x ≤ L.count → (T (is_marked L (heap_at_finish P M) x) → saved) × (saved → T (is_marked L (heap_at_finish P M) x))
  marked_at A M x z k = let m = marks A M in unfold view in (claims m.before).exact.marked m.start (steps m.between) M.lasts m.finish x z k

  exact_at : {ss : List Stage} {h' : Heap} → Along P h ss h' → (W : Whole ss) (x : ℕ) → let M = W.marking in let L = ledger_at_finish M in
      let saved = Saved (marking_events M) (ledger_at_start M) x in let times = frees_in P x L M.last.heap (W.sweeping ++ (W.last ∷ [])) in
      0 < x → x ≤ L.count → T (is_allocated L (heap_at_finish P M) x) → (¬ saved → times ≡ 1) × (saved → times ≡ 0)
  exact_at {ss} {h'} A W x z k a =
      let M = W.marking in
      let m = marks A M in
      let t = at W.sweeping W.last W.rest (subst (λ (l : List Stage). Along P W.marking.last.heap l h') W.later m.later) in
      let e = step_as P (end_of W.marking.last.heap W.sweeping) W.last.heap W.ends t.here in
      let r = (claims m.before).exact.freed m.start (steps m.between) M.lasts m.finish (steps t.before) W.sweeps e x z k
      (seen_allocated (ledger_at_finish W.marking) (heap_at_finish P W.marking) x a) in
      let q = to_end t.before x (ledger_at_finish W.marking) W.last W.ends in
      (λ u. q ∙ r.0 u, λ u. q ∙ r.1 u)

  pub beyond : (rs : List Request) → Beyond P h rs
  beyond rs = let R = run_of rs in record {
    sound = λ p. (next p.before p.here).sound;
    spared = λ p d. refused_spares P (on_pages p.here.pages (after h p.before)) p.here.call d
        ∙ last_buffers P p.here.pages (after h p.before) (sweeps_of (after h p.before) p.here);
    quiet = λ p. refused_quiet P (on_pages p.here.pages (after h p.before)) p.here.call;
    room = no_room_lem R.audited;
    inside = λ p. inside P (after h p.before) (run_of p.before).audited p.here;
    outside = λ p d. let F = (run_of p.before).audited in calm F (inside P (after h p.before) F p.here) d;
    parts = parts R.along;
    work = work_at R.along;
    marked = marked_at R.along;
    exact = exact_at R.along;
    phases = R.audited.states.phase;
    begins = λ e. begin_event P (after h rs) (run_of rs).audited e;
    finishes = λ e. let x = finishing P (stack_count + 1 + allocated_in (on_pages P (after h rs))) (after h rs) (run_of rs).audited (reached_at (run_of rs).along) e
        (omega (arith, (claims (run_of rs).along).advancing.to_mark_bound stack_count, records_counted (on_pages P (after h rs)) (reached_at (run_of rs).along))) in
        (x.calls, x.collects, x.short, x.finish);
    ends = λ e. let x = ending P P (after h rs) (run_of rs).audited (reached_at (run_of rs).along) e
        (count_bound P (λ s. starts_span (after h rs).table s && is_unswept (after h rs).table s)) in (x.steps, x.few, x.end);
  }

-- THE THEOREM: after an accepted setup in any buffers h, for P pages, every list of requests
pub demand_3 : AfterSetup
unfolding setup fresh ◌given◌
demand_3 h P t rs = go (good_buffers (on_pages P h)) refl t
  where
    go : (b : Bool) → good_buffers (on_pages P h) ≡ b → T (accepted (step h (setup_of P)).answer) →
        Demand P (step h (setup_of P)).heap rs × Beyond P (step h (setup_of P)).heap rs
    go true e t =
        let g = on_pages P h in
        let F = fresh_kept (on_pages P h) (sized (on_pages P h) (is_true _ e)) in
        rw e (demand P (fresh g) F (fresh_view g) rs, beyond P (fresh g) F (fresh_view g) rs)
    go false e t = absurd (rw e at t)

-- a setup on buffers of the right lengths is accepted
pub setup_accepted : (h : Heap) (P : ℕ) → T (good_buffers (on_pages P h)) → T (accepted (step h (setup_of P)).answer)
unfolding setup ◌given◌
setup_accepted h P t = rw (of_true (good_buffers (on_pages P h)) t) tt

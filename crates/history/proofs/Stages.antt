-- Stages as steps of the theory: a list of stages can be cut at each of them, what the buffers show of freeing from stage to stage is what the theory
-- counts, and every cycle has a finish.
use Prim.Native.Nat.{ℕ, ◌+◌}
use mathlib.Core.List.{List, [], ◌∷◌, ◌++◌, map}
use mathlib.Core.Logic.{◌⊎◌, inl, inr}
use mathlib.Core.Path.{◌≡◌, refl, subst, ap, ◌∙◌}
use native.Mathlib.Omega.{arith}
use lib.Dec.{T}
use Rattle.marking.specs.Effect.{in_cycle, in_marking}
use Rattle.marking.specs.WordHeap.{Phase}
use Rattle.marking.specs.Event
use Rattle.marking.specs.Ledger.{Ledger, Event, effect, Each, feed, feed_all}
use Rattle.marking.specs.Trace.{Step, Steps, ready}
use Rattle.marking.specs.Trace
use Rattle.marking.specs.Claim
use Rattle.marking.proofs.Phases.{start_marks, end_swept, marking_goes}
use Rattle.model.specs.Memory.{Heap}
use Rattle.model.specs.Allocate.{last_of}
use Rattle.model.specs.Facts.{Audited}
use Rattle.model.specs.Room
use Rattle.model.specs.Room.{Sweeps}
use Rattle.keeps.proofs.Swept.{sweeping, span_kept}
use Rattle.history.specs.Ledger.{on_pages}
use Rattle.history.specs.Demand.{Stage, sweep_stage, events_of, end_of, frees, frees_in, frees_since, Cycle}
use Rattle.history.specs.Beyond.{Parts}
use Rattle.history.proofs.View.{view}
use Rattle.history.proofs.ViewAllotted.{swept_step}
use Rattle.history.proofs.Steps.{audit_view}

-- the theory's step from one heap of P pages to another
abbrev pub StepOn : ℕ → Heap → Event → Heap → Type 0
StepOn P h e h' = Step (view (on_pages P h)) e (view (on_pages P h'))

-- every stage from h on is a step, and the last one leaves h'
pub data Along (P : ℕ) : Heap → List Stage → Heap → Type 0 where
  none : {h : Heap} → Along P h [] h
  more : {h h' : Heap} {s : Stage} {ss : List Stage} → StepOn P h s.event s.heap → Along P s.heap ss h' → Along P h (s ∷ ss) h'

-- one part after the other, and apart again
pub join : {P : ℕ} {h g h' : Heap} {ss ts : List Stage} → Along P h ss g → Along P g ts h' → Along P h (ss ++ ts) h'
join none B = B
join (more s A) B = more s (join A B)

pub cut : {P : ℕ} {h h' : Heap} (ss ts : List Stage) → Along P h (ss ++ ts) h' → Along P h ss (end_of h ss) × Along P (end_of h ss) ts h'
unfolding end_of
cut [] ts A = (none, A)
cut (s ∷ ss) ts (more x A) = let y = cut ss ts A in (more x y.0, y.1)

-- a stage, with those before and after it
pub record StageAt (P : ℕ) (h : Heap) (ss : List Stage) (s : Stage) (ts : List Stage) (h' : Heap) : Type 0 where
  pub before : Along P h ss (end_of h ss)
  pub here : StepOn P (end_of h ss) s.event s.heap
  pub later : Along P s.heap ts h'

pub at : {P : ℕ} {h h' : Heap} (ss : List Stage) (s : Stage) (ts : List Stage) → Along P h (ss ++ (s ∷ ts)) h' → StageAt P h ss s ts h'
at {P} {h} {h'} ss s ts A = let y = cut ss (s ∷ ts) A in go y.0 y.1
  where
    go : Along P h ss (end_of h ss) → Along P (end_of h ss) (s ∷ ts) h' → StageAt P h ss s ts h'
    go B (more x C) = record { before = B; here = x; later = C }

pub steps : {P : ℕ} {h h' : Heap} {ss : List Stage} → Along P h ss h' → Steps (view (on_pages P h)) (events_of ss) (view (on_pages P h'))
steps none = ready
steps (more s A) = Trace.more s (steps A)

-- a step by its event
pub step_as : (P : ℕ) (h h' : Heap) {e f : Event} → e ≡ f → StepOn P h e h' → StepOn P h f h'
step_as P h h' p s = subst (λ (x : Event). StepOn P h x h') p s

-- what the buffers show of a stage's freeing
pub frees_is : (x : ℕ) (L : Ledger) (h : Heap) (e : Event) (h' : Heap) → frees x L h e h' ≡ Claim.freed_in x L (view h) e (view h')
unfolding frees Claim.freed_in view
frees_is x L h e h' = refl

pub during : {P : ℕ} {h h' : Heap} {ss : List Stage} (A : Along P h ss h') (x : ℕ) (L : Ledger) → frees_in P x L h ss ≡ Claim.freed_during x L (steps A)
unfolding frees_in Claim.freed_during steps
during none x L = refl
during {P} (more {h} {h'} {s} {ss} y A) x L = rw (frees_is x L (on_pages P h) s.event (on_pages P s.heap), during A x (feed s.event L))

pub since : {P : ℕ} {h h' : Heap} {ss : List Stage} (A : Along P h ss h') (x n : ℕ) (L : Ledger) → frees_since P x n L h ss ≡ Claim.freed_since x n L (steps A)
unfolding frees_since Claim.freed_since steps
since none x n L = refl
since {P} (more {h} {h'} {s} {ss} y A) x n L = rw (frees_is x L (on_pages P h) s.event (on_pages P s.heap)) (since A x _ (feed s.event L))

-- .. with one stage more
frees_last : {P : ℕ} {h g : Heap} {ss : List Stage} → Along P h ss g → (x : ℕ) (L : Ledger) (l : Stage) →
    frees_in P x L h (ss ++ (l ∷ [])) ≡ frees_in P x L h ss + frees x (feed_all (events_of ss) L) (on_pages P g) l.event (on_pages P l.heap)
unfolding frees_in feed_all
frees_last none x L l = omega arith
frees_last (more {h} {h'} {s} {ss} y A) x L l = omega (arith, frees_last A x (feed s.event L) l)

-- .. the one that ends a cycle
pub to_end : {P : ℕ} {h g : Heap} {ss : List Stage} (A : Along P h ss g) (x : ℕ) (L : Ledger) (s : Stage) → s.event ≡ Event.end_cycle →
    frees_in P x L h (ss ++ (s ∷ [])) ≡ Claim.freed_to_end x L (steps A) (view (on_pages P s.heap))
to_end {P} {h} {g} {ss} A x L s e =
    rw (frees_last A x L s, during A x L, frees_is x (feed_all (events_of ss) L) (on_pages P g) s.event (on_pages P s.heap), e)

-- the ledger after one stage more
pub fed_last : (ss : List Stage) (s : Stage) (L : Ledger) → feed_all (events_of (ss ++ (s ∷ []))) L ≡ feed s.event (feed_all (events_of ss) L)
unfolding feed_all
fed_last [] s L = refl
fed_last (q ∷ ss) s L = fed_last ss s (feed q.event L)

-- no sweep leaves the heap as it was
pub no_sweeps : {P : ℕ} {h g : Heap} → Along P h [] g → g ≡ h
no_sweeps none = refl

-- .. and only the buffers count, not the P that the heap has besides
pub rebase : {P : ℕ} (h : Heap) {g : Heap} {ss : List Stage} → Along P (on_pages P h) ss g → (g' : Heap) × Along P h ss g' × (on_pages P g' ≡ on_pages P g)
rebase h none = (h, none, refl)
rebase h {g} (more s A) = (g, more s A, refl)

-- sweeps one after the other, each a step
pub sweeps_along : {h : Heap} {gs : List Heap} → Sweeps h gs → Audited h → Along h.pages h (map sweep_stage gs) (last_of h gs)
unfolding last_of
sweeps_along Room.none F = none
sweeps_along (Room.more s i u x) F = more (swept_step F s i u (audit_view F) (sweeping F s i u)) (sweeps_along x (span_kept F s i u))

-- EVERY CYCLE HAS A FINISH. From a heap in the mark phase, stages of a cycle that lead to its end are a mark phase, a finish and a sweep phase
record Split (ss : List Stage) : Type 0 where
  marking : List Stage
  finish : Stage
  sweeping : List Stage
  list : ss ≡ marking ++ (finish ∷ sweeping)
  marks : Each in_marking (events_of marking)
  finishes : finish.event ≡ Event.finish
  sweeps : Each in_cycle (events_of sweeping)

split : {P : ℕ} {h h' : Heap} (ss : List Stage) → Along P h ss h' → Each in_cycle (events_of ss) → (view (on_pages P h)).phase ≡ Phase.mark →
    (view (on_pages P h')).phase ≡ Phase.sweep → Split ss
unfolding Each
split [] none w p q = absurd (apart p q)
  where
    apart : {a : Phase} → a ≡ Phase.mark → a ≡ Phase.sweep → ⊥
    apart p q = let z : ◌≡◌ {A = ℕ} 0 1 = cc in omega arith
split {P} {h} {h'} (s ∷ ss) (more x A) w p q = go (marking_goes x p w.0) (λ m. split ss A w.1 m q)
  where
    go : (T (in_marking (effect s.event)) × ((view (on_pages P s.heap)).phase ≡ Phase.mark)) ⊎ (s.event ≡ Event.finish) →
        ((view (on_pages P s.heap)).phase ≡ Phase.mark → Split ss) → Split (s ∷ ss)
    go (inl m) ih =
        let r = ih m.1 in
        record {
          marking = s ∷ r.marking;
          finish = r.finish;
          sweeping = r.sweeping;
          list = ap (λ (l : List Stage). s ∷ l) r.list;
          marks = (m.0, r.marks);
          finishes = r.finishes;
          sweeps = r.sweeps;
        }
    go (inr e) ih = record { marking = []; finish = s; sweeping = ss; list = refl; marks = tt; finishes = e; sweeps = w.1 }

append_more : (as' : List Stage) (b : Stage) (bs cs : List Stage) → (as' ++ (b ∷ bs)) ++ cs ≡ as' ++ (b ∷ (bs ++ cs))
append_more [] b bs cs = refl
append_more (a ∷ as') b bs cs = ap (λ (l : List Stage). a ∷ l) (append_more as' b bs cs)

pub parts : {P : ℕ} {h h' : Heap} {ss : List Stage} → Along P h ss h' → (C : Cycle ss) → Parts C
parts {P} {h} {h'} {ss} A C =
    let x = at C.before C.first (C.between ++ (C.last ∷ C.later)) (subst (λ (l : List Stage). Along P h l h') C.list A) in
    let y = at C.between C.last C.later x.later in
    let S = split C.between y.before C.lasts (start_marks (step_as P (end_of h C.before) C.first.heap C.starts x.here))
    (end_swept (step_as P (end_of C.first.heap C.between) C.last.heap C.ends y.here)) in
    record {
      whole = record {
        marking = record {
          before = C.before;
          first = C.first;
          between = S.marking;
          last = S.finish;
          later = S.sweeping ++ (C.last ∷ C.later);
          list = C.list ∙ ap (λ (l : List Stage). C.before ++ (C.first ∷ l))
              (ap (λ (l : List Stage). l ++ (C.last ∷ C.later)) S.list ∙ append_more S.marking S.finish S.sweeping (C.last ∷ C.later));
          starts = C.starts;
          lasts = S.marks;
          ends = S.finishes;
        };
        sweeping = S.sweeping;
        last = C.last;
        rest = C.later;
        later = refl;
        sweeps = S.sweeps;
        ends = C.ends;
      };
      before = refl;
      first = refl;
      between = S.list;
      last = refl;
    }

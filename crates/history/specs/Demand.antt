-- DEMAND 3, as one claim about a list of calls, in the words of the scope document. The list follows an accepted setup, in any buffers; each of its
-- requests has a P of its own and any numbers, is accepted or refused, and gets the buffers as the last one left them. What the calls do is what the
-- contracts cite (crate model, specs/Calls.antt); the ledger is in Ledger.antt here and in the crate marking (specs/Ledger.antt there). The record
-- `Demand` is the claim; proofs/Theorem.antt proves it.
--
-- Answers go from call to call. The ledger, what is freed, and cycles go from stage to stage: the stages of a call are the sweeps inside it
-- (`sweeps_in` of the model's Calls) and then the call itself, so that a record counts as freed also where the same call gives its element out again.
-- [2] "In demand 3 these sweeps count as the cycle's own, also where the same call gives the freed element out again.": an allocation's sweeps come
-- before its birth.
--
-- To be read before it: Calls of the model, Effect, Event and Ledger of the crate marking, and Ledger here.
use Rattle.std.specs.Prelude.{ℕ, ◌+◌, ◌≤◌, ◌<◌, Bool, not, cond, List, [], ◌∷◌, ◌++◌, map, ◌≢◌, ◌≡◌, length, T, eqb}
use Rattle.marking.specs.Effect.{Effect, lasting, in_cycle, turned_off}
use Rattle.marking.specs.Event.{Write}
use Rattle.marking.specs.Event
use Rattle.marking.specs.Ledger.{Ledger, Event, effect, Each, empty, feed, feed_all, value, ledger_word, Reachable, last_born}
use Rattle.model.specs.Memory.{Heap, word, slot, global, state, word_of, address_of, stack_count, slot_count, global_count, closed}
use Rattle.model.specs.Bitmaps.{is, allocated}
use Rattle.model.specs.Spans.{owner, page_count, kind_entry}
use Rattle.model.specs.Calls.{Request, step, sweeps_of, after}
use Rattle.model.specs.declared.Call.TheVariants.{Setup}
use Rattle.model.specs.declared.Answer.{Answer}
use Rattle.model.specs.declared.Answer.TheVariants.{Value}
use Rattle.history.specs.Ledger.{event, on_pages}

-- a setup of P pages
abbrev pub setup_of : ℕ → Request
setup_of P = record { pages = P; call = Setup }

-- the event of a call on buffers h
abbrev pub event_on : Heap → Request → Event
event_on h r = event r.call (step h r).answer

-- a stage: what the ledger is fed, and the heap afterwards
pub record Stage : Type 0 where
  pub event : Event
  pub heap : Heap

-- a sweep inside a call is the event of a sweep step, which leaves the ledger alone
abbrev pub sweep_stage : Heap → Stage
sweep_stage h = record { event = Event.sweep_step; heap = h }

-- the stages of a call on buffers h: the sweeps inside it, and the call itself
abbrev pub stages_of : Heap → Request → List Stage
stages_of h r = map sweep_stage (sweeps_of h r) ++ (record { event = event_on h r; heap = (step h r).heap } ∷ [])

-- those of a list of calls, each on the buffers as the last one left them
unfoldable pub stages : Heap → List Request → List Stage
stages h [] = []
stages h (r ∷ rs) = stages_of h r ++ stages (step h r).heap rs

-- the events of stages, and the heap at the end of stages from h on
abbrev pub events_of : List Stage → List Event
events_of ss = map (λ s. s.event) ss

unfoldable pub end_of : Heap → List Stage → Heap
end_of h [] = h
end_of h (s ∷ ss) = end_of s.heap ss

-- the ledger after stages, and after a list of calls; before them stands an accepted setup, which "empties it"
abbrev pub fed : List Stage → Ledger
fed ss = feed_all (events_of ss) empty

abbrev pub ledger : Heap → List Request → Ledger
ledger h rs = fed (stages h rs)

-- a place in a list, of calls or of stages: one of them, with those before and after it
pub record Place {A : Type 0} (l : List A) : Type 0 where
  pub before : List A
  pub here : A
  pub later : List A
  pub list : l ≡ before ++ (here ∷ later)

-- at a call: its answer and its event, and the ledger after it
abbrev pub answer_at : Heap → {rs : List Request} → Place rs → Answer
answer_at h p = (step (after h p.before) p.here).answer

abbrev pub event_at : Heap → {rs : List Request} → Place rs → Event
event_at h p = event_on (after h p.before) p.here

abbrev pub ledger_after : Heap → {rs : List Request} → Place rs → Ledger
ledger_after h p = ledger h (p.before ++ (p.here ∷ []))

-- at a stage: the heap of P pages before and after it
abbrev pub heap_before : ℕ → Heap → {ss : List Stage} → Place ss → Heap
heap_before P h p = on_pages P (end_of h p.before)

abbrev pub heap_after : ℕ → {ss : List Stage} → Place ss → Heap
heap_after P p = on_pages P p.here.heap

-- "After the list the same stacks are open as in the ledger and every slot and global equals the ledger's; each reachable record has its
-- allocated bit set, its words from its address on equal the ledger's, and no two such records share a word."
pub record Matches (h : Heap) (L : Ledger) : Type 0 where
  pub stacks : (s : ℕ) → s < stack_count → not (eqb (state h s) closed) ≡ L.opened s
  pub slots : (s i : ℕ) → s < stack_count → i < slot_count → slot h s i ≡ value L (L.slot s i)
  pub globals : (g : ℕ) → g < global_count → global h g ≡ value L (L.global g)
  pub bit : (x : ℕ) → Reachable L x → T (is allocated h (word_of (L.address x)))
  -- "its words from its address on": words of the arena, and equal
  pub inside : (x f : ℕ) → Reachable L x → f < L.words x → word_of (L.address x) + f < length h.arena
  pub words : (x f : ℕ) → Reachable L x → f < L.words x → word h (word_of (L.address x) + f) ≡ ledger_word L x f
  -- "no two such records share a word"
  pub apart : (x y f g : ℕ) → Reachable L x → Reachable L y → x ≢ y → f < L.words x → g < L.words y → word_of (L.address x) + f ≢ word_of (L.address y) + g
  -- besides: an address is that of a word
  pub address : (x : ℕ) → Reachable L x → L.address x ≡ address_of (word_of (L.address x))

-- "A free page is 0, 0, 0."
abbrev pub FreePage : List ℕ → ℕ → Type 0
FreePage t g = (owner t g ≡ 0) × (page_count t g ≡ 0) × (kind_entry t g ≡ 0)

-- "A span is a page s that holds s+1 and a count n, and has pages s to s+n-1; a free page is in none, every other in exactly one."
abbrev pub InSpan : List ℕ → ℕ → ℕ → Type 0
InSpan t s g = (owner t s ≡ s + 1) × (s ≤ g) × (g < s + page_count t s)

pub record Pages (P : ℕ) (t : List ℕ) : Type 0 where
  pub free : (g : ℕ) → FreePage t g → (s : ℕ) → ¬ (InSpan t s g)
  pub used : (g : ℕ) → ¬ (FreePage t g) → (s : ℕ) × InSpan t s g × ((r : ℕ) → InSpan t r g → r ≡ s)
  -- besides: a page whose first number is 0 is free, and spans lie inside the arena
  pub zero : (g : ℕ) → owner t g ≡ 0 → FreePage t g
  pub inside : (s g : ℕ) → InSpan t s g → g < P

-- what the answer of a call with this event is about: the slot that it sets, the word that it gets, or nothing that the ledger knows, as that of a
-- refused call
pub data Subject : Type 0 where
  nothing : Subject
  in_slot : (s i : ℕ) → Subject
  in_word : (s j f : ℕ) → Subject

abbrev pub subject : Event → Subject
subject (Event.writes (Write.reset_stack s b)) = Subject.nothing
subject (Event.writes (Write.assign s i v)) = Subject.in_slot s i
subject (Event.writes (Write.store s j f k)) = Subject.nothing
subject (Event.writes (Write.store_global s g i)) = Subject.nothing
subject (Event.writes (Write.put s j f v)) = Subject.nothing
subject (Event.writes (Write.allocate s i p n a)) = Subject.in_slot s i
subject (Event.get s j f) = Subject.in_word s j f
subject (Event.scan_stack s) = Subject.nothing
subject Event.scan_globals = Subject.nothing
subject (Event.acts c) = Subject.nothing

-- "Each accepted call that sets a slot answered the ledger's new value of it, and get that of its word.": L is the ledger after the call
abbrev pub Answered : Subject → Answer → Ledger → Type 0
Answered Subject.nothing a L = Unit {0}
Answered (Subject.in_slot s i) a L = a ≡ Value (value L (L.slot s i))
Answered (Subject.in_word s j f) a L = a ≡ Value (ledger_word L (L.slot s j) f)

-- "A sweep step that turns off the allocated bit at an address frees the record last born there.": how often, once or not at all, the stage with
-- event e frees the record x, from heap h to heap h' and with L the ledger before it
unfoldable pub frees : ℕ → Ledger → Heap → Event → Heap → ℕ
frees x L h e h' =
    cond (eqb (last_born L (L.address x)) x) (turned_off (effect e) (is allocated h (word_of (L.address x))) (is allocated h' (word_of (L.address x)))) 0

-- .. how many stages do, from h on, on buffers of P pages
unfoldable pub frees_in : ℕ → ℕ → Ledger → Heap → List Stage → ℕ
frees_in P x L h [] = 0
frees_in P x L h (s ∷ ss) = frees x L (on_pages P h) s.event (on_pages P s.heap) + frees_in P x (feed s.event L) s.heap ss

-- .. and how many have since the last accepted setup, where n had before them
unfoldable pub frees_since : ℕ → ℕ → ℕ → Ledger → Heap → List Stage → ℕ
frees_since P x n L h [] = n
frees_since P x n L h (s ∷ ss) =
    frees_since P x (cond (lasting (effect s.event)) (n + frees x L (on_pages P h) s.event (on_pages P s.heap)) 0) (feed s.event L) s.heap ss

abbrev pub freed : ℕ → ℕ → Heap → List Stage → ℕ
freed P x h ss = frees_since P x 0 empty h ss

-- a part of the stages ss: it runs from one event to another, and what lies between passes a test
pub record Interval (from : Event) (test : Effect → Bool) (to : Event) (ss : List Stage) : Type 0 where
  pub before : List Stage
  pub first : Stage
  pub between : List Stage
  pub last : Stage
  pub later : List Stage
  pub list : ss ≡ before ++ (first ∷ (between ++ (last ∷ later)))
  pub starts : first.event ≡ from
  pub lasts : Each test (events_of between)
  pub ends : last.event ≡ to

-- "A cycle runs from an accepted start to the next accepted sweep step that answers 0, 0, 0; a setup accepted before that breaks it off.": one that
-- ends within the stages
abbrev pub Cycle : List Stage → Type 0
Cycle = Interval Event.start in_cycle Event.end_cycle

-- THE CLAIM about the list rs, made on buffers of P pages that an accepted setup left as h
pub record Demand (P : ℕ) (h : Heap) (rs : List Request) : Type 0 where
  -- after the list
  pub matches : Matches (on_pages P (after h rs)) (ledger h rs)
  pub pages : Pages P (after h rs).table
  -- at each of its calls
  pub answers : (p : Place rs) → Answered (subject (event_at h p)) (answer_at h p) (ledger_after h p)
  -- a stage, a sweep step above all, that turns off the allocated bit of word w: a record was born there, and the last of them was not freed before
  pub sweeps : (p : Place (stages h rs)) (w : ℕ) → T (is allocated (heap_before P h p) w) → T (not (is allocated (heap_after P p) w)) →
      let L = fed p.before in let x = last_born L (address_of w) in (0 < x) × (x ≤ L.count) × (freed P x h p.before ≡ 0)
  -- "In a cycle that ends within the list, each record born before the start, not freed and not reachable by then, is freed by exactly one of its
  -- sweep steps.", the sweeps inside its calls among them
  pub cycles : (C : Cycle (stages h rs)) (x : ℕ) → let L = fed C.before in
      0 < x → x ≤ L.count → freed P x h C.before ≡ 0 → ¬ (Reachable L x) → frees_in P x L C.first.heap (C.between ++ (C.last ∷ [])) ≡ 1

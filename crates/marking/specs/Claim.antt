-- DEMAND 3, as a claim about a list of calls on a heap of words and bits: the record `Correct`, at the end. proofs/Correct.antt proves it. Read Ledger
-- and Trace before it. (That every page is free or in exactly one span needs the page table, and is claimed in the crate history.)
use Rattle.std.specs.Prelude.{◌≡◌, Bool, not, cond, ◌&&◌, ◌≢◌, List, [], ◌∷◌, ℕ, suc, ◌+◌, ◌≤◌, ◌<◌, T, eqb}
use Rattle.marking.specs.Effect.{lasting, in_cycle, in_marking, is_sweep, turned_off, work}
use Rattle.marking.specs.Count.{count}
use Rattle.model.specs.Memory.{address_of, word_of}
use Rattle.marking.specs.WordHeap.{WordHeap, record_in}
use Rattle.marking.specs.Event.{Event, effect, Each}
use Rattle.marking.specs.Event
use Rattle.marking.specs.Ledger.{Ledger, feed, feed_all, value, ledger_word, Reachable, last_born}
use Rattle.marking.specs.Trace.{Step, Steps, ready, more}

-- "After the list the same stacks are open as in the ledger and every slot and global equals the ledger's; each reachable record has
-- its allocated bit set, its words from its address on equal the ledger's, and no two such records share a word."
pub record MatchesLedger (H : WordHeap) (L : Ledger) : Type 0 where
  pub opened : (t : ℕ) → H.opened t ≡ L.opened t
  pub slots : (t i : ℕ) → H.slots t i ≡ value L (L.slot t i)
  pub globals : (g : ℕ) → H.globals g ≡ value L (L.global g)
  pub allocated : (x : ℕ) → Reachable L x → T (H.allocated (word_of (L.address x)))
  pub words : (x f : ℕ) → Reachable L x → f < L.words x → H.arena (word_of (L.address x) + f) ≡ ledger_word L x f
  pub apart : (x y f g : ℕ) → Reachable L x → Reachable L y → x ≢ y → f < L.words x → g < L.words y →
      word_of (L.address x) + f ≢ word_of (L.address y) + g

-- "Each accepted call that sets a slot answered the ledger's new value of it, and get that of its word.": of a call with event e that leaves the heap
-- H, where L is the ledger after it. A call that sets a slot answers what the slot holds then
pub record Answers (e : Event) (H : WordHeap) (L : Ledger) : Type 0 where
  pub slots : (s i : ℕ) → H.slots s i ≡ value L (L.slot s i)
  pub got : (s j f : ℕ) → e ≡ Event.get s j f → H.arena (record_in H s j + f) ≡ ledger_word L (L.slot s j) f

-- how often a call frees the record x: a sweep step does that turns off the allocated bit at its address, if x is the last born there
unfoldable pub freed_in : ℕ → Ledger → WordHeap → Event → WordHeap → ℕ
freed_in x L H e H' =
    cond (eqb (last_born L (L.address x)) x) (turned_off (effect e) (H.allocated (word_of (L.address x))) (H'.allocated (word_of (L.address x)))) 0

-- .. how often the calls of a list do
unfoldable pub freed_during : {H H' : WordHeap} {es : List Event} → ℕ → Ledger → Steps H es H' → ℕ
freed_during x L ready = 0
freed_during x L (more {H} {H₁} {H₂} {e} {es} s ss) = freed_in x L H e H₁ + freed_during x (feed e L) ss

-- .. how often they do and the sweep step that ends a cycle after them, which leaves the heap E
abbrev pub freed_to_end : {H H' : WordHeap} {es : List Event} → ℕ → Ledger → Steps H es H' → WordHeap → ℕ
freed_to_end {H} {H'} {es} x L ss E = freed_during x L ss + freed_in x (feed_all es L) H' Event.end_cycle E

-- .. and how often they have since the last setup, where it was n before the list
unfoldable pub freed_since : {H H' : WordHeap} {es : List Event} → ℕ → ℕ → Ledger → Steps H es H' → ℕ
freed_since x n L ready = n
freed_since x n L (more {H} {H₁} {H₂} {e} {es} s ss) = freed_since x (cond (lasting (effect e)) (n + freed_in x L H e H₁) 0) (feed e L) ss

-- a record is allocated: the allocated bit at its address is on, and it is the last born there
abbrev pub is_allocated : Ledger → WordHeap → ℕ → Bool
is_allocated L H x = H.allocated (word_of (L.address x)) && eqb (last_born L (L.address x)) x

-- how many events are mark steps that do work
unfoldable pub work_in : List Event → ℕ
work_in [] = 0
work_in (e ∷ es) = work (effect e) + work_in es

-- THE CLAIM, of a heap H that a list of calls has left, where L is the ledger and n x how often the record x was freed since the last setup:
-- of the heap itself, of each call that may come next, and of each cycle that may start there
pub record Correct (H : WordHeap) (L : Ledger) (n : ℕ → ℕ) : Type 0 where
  pub matches : MatchesLedger H L
  -- what the next call answers
  pub answers : {e : Event} {H' : WordHeap} → Step H e H' → Answers e H' (feed e L)
  -- "A sweep step that turns off the allocated bit at an address frees the record last born there.": where a bit is on one was
  -- born, and not freed before; a sweep step that turns it off frees that record
  pub unfreed : (w : ℕ) → T (H.allocated w) →
      (0 < last_born L (address_of w)) × (last_born L (address_of w) ≤ L.count) × (n (last_born L (address_of w)) ≡ 0)
  pub freed : {e : Event} {H' : WordHeap} → Step H e H' → T (is_sweep (effect e)) → (w : ℕ) → T (H.allocated w) → T (not (H'.allocated w)) →
      freed_in (last_born L (address_of w)) L H e H' ≡ 1
  -- "In a cycle that ends within the list, each record born before the start, not freed and not reachable by then, is freed by exactly
  -- one of its sweep steps."
  pub cycles : {H₁ H₂ H₃ : WordHeap} {es : List Event} → Step H Event.start H₁ → (ss : Steps H₁ es H₂) → Each in_cycle es →
      Step H₂ Event.end_cycle H₃ →
      (x : ℕ) → 0 < x → x ≤ L.count → n x ≡ 0 → ¬ (Reachable L x) → freed_to_end x L ss H₃ ≡ 1
  -- "No cycle has more mark steps that do work than there are records allocated at its finish."
  pub works : {H₁ H₂ H₃ : WordHeap} {es : List Event} → Step H Event.start H₁ → (ss : Steps H₁ es H₂) → Each in_marking es →
      Step H₂ Event.finish H₃ →
      work_in es ≤ count (is_allocated (feed_all es L) H₂) (suc (feed_all es L).count)

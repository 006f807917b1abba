-- Lists of calls on a heap of words and bits: what each call does, and with which event the ledger is fed. Read Event, Ledger and WordHeap before it.
use Rattle.std.specs.Prelude.{◌≡◌, Bool, true, false, not, cond, ◌⊎◌, List, [], ◌∷◌, ℕ, ◌+◌, ◌≤◌, ◌<◌, T, ltb}
use Rattle.model.specs.Memory.{slot_count, global_count, address_of}
use Rattle.marking.specs.WordHeap.{off, mark, sweep, Elements, WordHeap, LegalColours, Alike, record_in, heap_source, HasSource, heap_assign, heap_store, heap_store_global, heap_put, heap_reset_stack, heap_start, heap_scan_stack, heap_scan_globals, heap_mark_step, heap_finish, heap_sweep, heap_end_cycle, heap_allocate}
use Rattle.marking.specs.Event.{Source, Write, Event}
use Rattle.marking.specs.Event

-- a heap after a setup
pub record Fresh (H : WordHeap) : Type 0 where
  pub allocated : (w : ℕ) → H.allocated w ≡ false
  pub slots : (t i : ℕ) → H.slots t i ≡ 0
  pub globals : (g : ℕ) → H.globals g ≡ 0
  pub opened : (t : ℕ) → H.opened t ≡ false
  pub phase : H.phase ≡ off

-- WHAT A CALL DOES, of the heap alone, with what it may assume: whoever connects a concrete heap supplies one of these for each call.
-- nothing: a refused call, the audit, a mark step that finds none gray. allocate: a record of p pointer words and n words in all at word w, clear of
-- every allocated element and in a swept span; its words are 0 then, and no other word, element or flag of an allocated one changes. rescan_stack,
-- rescan_globals: a scan of what is scanned already. sweep_step: the allocated words of q are unswept, and what is left of them is still as it was.
pub data Step (H : WordHeap) : Event → WordHeap → Type 0 where
  nothing : Step H Event.nothing H
  setup : (H' : WordHeap) → Fresh H' → Step H Event.setup H'
  reset_stack : (s : ℕ) (b : Bool) → LegalColours H → Step H (Event.writes (Write.reset_stack s b)) (heap_reset_stack s b H)
  assign : (s i : ℕ) (v : Source) → LegalColours H → T (H.opened s) → i < slot_count → HasSource H s v →
      Step H (Event.writes (Write.assign s i v)) (heap_assign s i (heap_source H s v) H)
  store : (s j f k : ℕ) → LegalColours H → 0 < H.slots s j → f < H.elements.pointers (record_in H s j) →
      Step H (Event.writes (Write.store s j f k)) (heap_store (record_in H s j + f) (H.slots s k) H)
  store_global : (s g i : ℕ) → LegalColours H → g < global_count →
      Step H (Event.writes (Write.store_global s g i)) (heap_store_global g (H.slots s i) H)
  put : (s j f v : ℕ) → LegalColours H → 0 < H.slots s j → H.elements.pointers (record_in H s j) ≤ f → f < H.elements.words (record_in H s j) →
      Step H (Event.writes (Write.put s j f v)) (heap_put (record_in H s j + f) v H)
  allocate : (s i p n w : ℕ) (arena : ℕ → ℕ) (E : Elements) (unswept : ℕ → Bool) → LegalColours H → T (H.opened s) → i < slot_count →
      ((v : ℕ) → T (H.allocated v) → (v + H.elements.words v ≤ w) ⊎ (w + n ≤ v)) → (p ≤ n) × (0 < n) →
      ((k : ℕ) → k < n → arena (w + k) ≡ 0) → ((v : ℕ) → ((v < w) ⊎ (w + n ≤ v)) → arena v ≡ H.arena v) →
      (E.scan w ≡ ltb 0 p) × (E.pointers w ≡ p) × (E.words w ≡ n) → ((v : ℕ) → T (H.allocated v) → Alike E H.elements v) →
      unswept w ≡ false → ((v : ℕ) → T (H.allocated v) → unswept v ≡ H.unswept v) →
      Step H (Event.writes (Write.allocate s i p n (address_of w))) (heap_allocate s i w arena E unswept H)
  get : (s j f : ℕ) → 0 < H.slots s j → H.elements.pointers (record_in H s j) ≤ f → f < H.elements.words (record_in H s j) →
      Step H (Event.get s j f) H
  start : LegalColours H → H.phase ≡ off → Step H Event.start (heap_start H)
  scan_stack : (s : ℕ) → LegalColours H → H.phase ≡ mark → Step H (Event.scan_stack s) (heap_scan_stack s H)
  rescan_stack : (s : ℕ) → H.phase ≡ mark → T (not (H.bits.gray_stack s)) → Step H (Event.scan_stack s) H
  scan_globals : LegalColours H → H.phase ≡ mark → Step H Event.scan_globals (heap_scan_globals global_count H)
  rescan_globals : H.phase ≡ mark → T (not H.bits.gray_globals) → Step H Event.scan_globals H
  mark_step : (w : ℕ) → LegalColours H → H.phase ≡ mark → T (H.bits.gray w) →
      Step H Event.mark_step (heap_mark_step w (H.elements.pointers w) H)
  finish : (unswept : ℕ → Bool) → LegalColours H → H.phase ≡ mark → ((w : ℕ) → T (not (H.bits.gray w))) → T (not H.bits.gray_globals) →
      ((t : ℕ) → T (not (H.bits.gray_stack t))) →
      ((w : ℕ) → T (H.allocated w) → unswept w ≡ true) → Step H Event.finish (heap_finish unswept H)
  sweep_step : (q : ℕ → Bool) (E : Elements) → LegalColours H → H.phase ≡ sweep →
      ((w : ℕ) → T (H.allocated w) → T (q w) → H.unswept w ≡ true) →
      ((w : ℕ) → T (cond (q w) (H.bits.marked w) (H.allocated w)) → Alike E H.elements w) → Step H Event.sweep_step (heap_sweep q E H)
  end_cycle : LegalColours H → H.phase ≡ sweep → ((w : ℕ) → T (H.allocated w) → H.unswept w ≡ false) → Step H Event.end_cycle (heap_end_cycle H)

-- the calls of a list, one after the other
pub data Steps : WordHeap → List Event → WordHeap → Type 0 where
  ready : {H : WordHeap} → Steps H [] H
  more : {H H₁ H₂ : WordHeap} {e : Event} {es : List Event} → Step H e H₁ → Steps H₁ es H₂ → Steps H (e ∷ es) H₂

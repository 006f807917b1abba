-- The ledger: what the calls say of stacks, globals and records, with no heap. It is fed events (Event, to be read first).
use Rattle.std.specs.Prelude.{Bool, false, cond, List, [], ◌∷◌, ℕ, zero, suc, ◌<◌, T, eqb, ltb}
use Rattle.marking.specs.Updates.{update, update2}
use Rattle.marking.specs.Effect.{setsUp, ◌is◌}
use Rattle.marking.specs.Event.{Source, reset_stack, assign, store, store_global, put, allocate, writes, get, scan_stack, scan_globals, acts}
pub use Rattle.marking.specs.Event.{Event, effect}
unfoldable pub use Rattle.marking.specs.Event.{Each}

-- "It has each stack's slots and whether it is open, the globals, and records in order of birth: address, p, and a value for each word of the element
-- that the size takes. Slots, globals and pointer words hold nil or a record, the other words a number.": nil is 0, and the k-th record born is k.
-- count: how many were born; pointers: p; words: how many the element has; pointer, number: what a pointer word or another word holds
pub record Ledger : Type 0 where
  pub opened : ℕ → Bool
  pub slot : ℕ → ℕ → ℕ
  pub global : ℕ → ℕ
  pub count : ℕ
  pub address : ℕ → ℕ
  pub pointers : ℕ → ℕ
  pub words : ℕ → ℕ
  pub pointer : ℕ → ℕ → ℕ
  pub number : ℕ → ℕ → ℕ

unfoldable pub empty : Ledger
empty = record { opened = λ s. false; slot = λ s i. 0; global = λ g. 0; count = 0; address = λ k. 0; pointers = λ k. 0; words = λ k. 0; pointer = λ k f. 0; number = λ k f. 0 }

unfoldable pub with_slot : ℕ → ℕ → ℕ → Ledger → Ledger
with_slot s i v L = record { opened = L.opened; slot = update2 L.slot s i v; global = L.global; count = L.count; address = L.address; pointers = L.pointers; words = L.words; pointer = L.pointer; number = L.number }

unfoldable pub with_stack : ℕ → Bool → Ledger → Ledger
with_stack s b L = record { opened = update L.opened s b; slot = update L.slot s (λ i. 0); global = L.global; count = L.count; address = L.address; pointers = L.pointers; words = L.words; pointer = L.pointer; number = L.number }

unfoldable pub with_pointer : ℕ → ℕ → ℕ → Ledger → Ledger
with_pointer x f v L = record { opened = L.opened; slot = L.slot; global = L.global; count = L.count; address = L.address; pointers = L.pointers; words = L.words; pointer = update2 L.pointer x f v; number = L.number }

unfoldable pub with_global : ℕ → ℕ → Ledger → Ledger
with_global g v L = record { opened = L.opened; slot = L.slot; global = update L.global g v; count = L.count; address = L.address; pointers = L.pointers; words = L.words; pointer = L.pointer; number = L.number }

unfoldable pub with_number : ℕ → ℕ → ℕ → Ledger → Ledger
with_number x f v L = record { opened = L.opened; slot = L.slot; global = L.global; count = L.count; address = L.address; pointers = L.pointers; words = L.words; pointer = L.pointer; number = update2 L.number x f v }

unfoldable pub with_record : ℕ → ℕ → ℕ → Ledger → Ledger
with_record p n a L = record {
  opened = L.opened;
  slot = L.slot;
  global = L.global;
  count = suc L.count;
  address = update L.address (suc L.count) a;
  pointers = update L.pointers (suc L.count) p;
  words = update L.words (suc L.count) n;
  pointer = update L.pointer (suc L.count) (λ f. 0);
  number = update L.number (suc L.count) (λ f. 0);
}

-- what a source of stack s holds
abbrev pub source : Ledger → ℕ → Source → ℕ
source L s Source.nil = 0
source L s (Source.slot j) = L.slot s j
source L s (Source.pointer j f) = L.pointer (L.slot s j) f
source L s (Source.global g) = L.global g

-- "An accepted setup empties it: stacks closed, slots and globals nil, no record. An accepted allocation adds a record, all nil and 0, and puts it in
-- the slot. Accepted open, close, copy, clear, load, store, put and global calls do there what is said above, without the barrier. Get, audit, the
-- cycle's calls and every refused call leave it alone."
unfoldable pub feed : Event → Ledger → Ledger
feed (writes (reset_stack s b)) L = with_stack s b L
feed (writes (assign s i v)) L = with_slot s i (source L s v) L
feed (writes (store s j f k)) L = with_pointer (L.slot s j) f (L.slot s k) L
feed (writes (store_global s g i)) L = with_global g (L.slot s i) L
feed (writes (put s j f v)) L = with_number (L.slot s j) f v L
feed (writes (allocate s i p n a)) L = with_slot s i (suc L.count) (with_record p n a L)
feed (get s j f) L = L
feed (scan_stack s) L = L
feed scan_globals L = L
feed (acts c) L = cond (c is setsUp) empty L

unfoldable pub feed_all : List Event → Ledger → Ledger
feed_all [] L = L
feed_all (e ∷ es) L = feed_all es (feed e L)

-- "Nil counts as 0, a record as its address."
unfoldable pub value : Ledger → ℕ → ℕ
value L x = cond (eqb x 0) 0 (L.address x)

-- word f of the record x, as a number
unfoldable pub ledger_word : Ledger → ℕ → ℕ → ℕ
ledger_word L x f = cond (ltb f (L.pointers x)) (value L (L.pointer x f)) (L.number x f)

-- "Reachable is what a slot of an open stack or a global holds, and what a pointer word of a reachable record holds."
pub data Reachable (L : Ledger) : ℕ → Type 0 where
  stack : (s i : ℕ) → T (L.opened s) → 0 < L.slot s i → Reachable L (L.slot s i)
  global : (g : ℕ) → 0 < L.global g → Reachable L (L.global g)
  field : {x : ℕ} → Reachable L x → (f : ℕ) → f < L.pointers x → 0 < L.pointer x f → Reachable L (L.pointer x f)

-- the record last born at address a, of the first n; of all
unfoldable pub last_of : (ℕ → ℕ) → ℕ → ℕ → ℕ
last_of address_of zero a = 0
last_of address_of (suc k) a = cond (eqb (address_of (suc k)) a) (suc k) (last_of address_of k a)

abbrev pub last_born : Ledger → ℕ → ℕ
last_born L a = last_of L.address L.count a

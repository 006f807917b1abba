-- The audit as facts: what it says when it says yes, in small records, each over only what it reads, so that a call that changes one buffer keeps the
-- others by name. `Audited` joins them; it is what the functions behind the entry check require (no public call requires anything).
-- proofs/Audit.antt turns the test into these facts and back. Read Audit before it.
use Rattle.std.specs.Prelude.{ℕ, ◌+◌, ◌-◌, ◌*◌, ◌/◌, ◌%◌, ◌<◌, ◌≤◌, Bool, false, cond, List, ◌⊎◌, ◌≢◌, ◌≡◌, get_or, length, T}
use Rattle.model.specs.Memory.{Heap, max_pages, page_words, entry_numbers, unswept_flag, bitmap_words, root_words, stack_count, slot_count, first_state, state_at, globals_state_at, phase_at, slot_at, page_of, word_of, address_of, open_state, gray_state, off, mark, sweep, nil}
use Rattle.model.specs.Memory
use Rattle.model.specs.Bitmaps.{Part, allocated, marked, gray, pointer, bit_in, is}
use Rattle.model.specs.Classes.{class_pages, kinds, fewest_large, most_large}
use Rattle.model.specs.Spans.{owner, page_count, kind_entry, elements, element_number, is_scan, is_unswept, span_of, element_of, kept, record_of}

-- the four lengths, and P
pub record Sized (h : Heap) : Type 0 where
  pub low : 1 ≤ h.pages
  pub high : h.pages ≤ max_pages
  pub arena : length h.arena ≡ page_words * h.pages
  pub table : length h.table ≡ entry_numbers * h.pages
  pub bits : length h.bits ≡ bitmap_words * h.pages
  pub roots : length h.roots ≡ root_words

-- a span starts at page s
abbrev pub IsSpan : List ℕ → ℕ → Type 0
IsSpan t s = owner t s ≡ s + 1

-- the entry of a span's first page: one of the 134 kinds, at most with the unswept flag, and "the page count is the class's (5 to 128 for class 0)"
pub record GoodEntry (entry count : ℕ) : Type 0 where
  pub flag : entry < unswept_flag + unswept_flag
  pub kind : entry % unswept_flag < kinds
  pub large : entry % unswept_flag / 2 ≡ 0 → (fewest_large ≤ count) × (count ≤ most_large)
  pub small : entry % unswept_flag / 2 ≢ 0 → count ≡ class_pages (entry % unswept_flag / 2)

-- "page entries are as above, spans lie inside the arena", of a table of P pages
pub record Spans (P : ℕ) (t : List ℕ) : Type 0 where
  -- a page that is not free lies in the span that it names
  pub whose : (g : ℕ) → 0 < owner t g → IsSpan t (owner t g - 1) × (owner t g - 1 ≤ g) × (g < owner t g - 1 + page_count t (owner t g - 1))
  -- a span's pages name it
  pub body : (s g : ℕ) → IsSpan t s → s ≤ g → g < s + page_count t s → owner t g ≡ s + 1
  pub inside : (s : ℕ) → IsSpan t s → s + page_count t s ≤ P
  pub rest : (g : ℕ) → owner t g ≢ g + 1 → (page_count t g ≡ 0) × (kind_entry t g ≡ 0)
  pub entry : (s : ℕ) → IsSpan t s → GoodEntry (kind_entry t s) (page_count t s)

-- word w lies in an element: not on a free page, not in the tail of a span
pub record InElement (t : List ℕ) (w : ℕ) : Type 0 where
  pub used : 0 < owner t (page_of w)
  pub number : element_number t (span_of t w) w < elements t (span_of t w)

-- .. and is its first word
pub record Element (t : List ℕ) (w : ℕ) : Type 0 where
  pub lies : InElement t w
  pub first : element_of t w ≡ w

-- the bit of word w in a part of the bitmaps of P pages
abbrev pub bit : ℕ → Part → List ℕ → ℕ → Bool
bit P q b w = bit_in (page_words * P) q b w

-- the span of word w is a scan span, is unswept
abbrev pub scan_at : List ℕ → ℕ → Bool
scan_at t w = is_scan t (span_of t w)

abbrev pub unswept_at : List ℕ → ℕ → Bool
unswept_at t w = is_unswept t (span_of t w)

-- the bits, word by word, in every phase: "allocated bits only at elements", "marked only where allocated", "gray only where marked, in scan spans",
-- "pointer bits are a first run of at least one word in each allocated scan element and stand nowhere else"
pub record Bits (P : ℕ) (t b : List ℕ) : Type 0 where
  pub element : (w : ℕ) → T (bit P allocated b w) → Element t w
  pub marks : (w : ℕ) → T (bit P marked b w) → T (bit P allocated b w)
  pub grays : (w : ℕ) → T (bit P gray b w) → T (bit P marked b w) × T (scan_at t w)
  pub pointers : (w : ℕ) → T (bit P pointer b w) → InElement t w × T (scan_at t w) × T (bit P allocated b (element_of t w))
  pub head : (w : ℕ) → T (bit P allocated b w) → T (scan_at t w) → T (bit P pointer b w)
  pub unbroken : (w : ℕ) → T (bit P pointer b w) → element_of t w ≢ w → T (bit P pointer b (w - 1))

-- what depends on the phase: marked "none in phase off", "unswept only in phase sweep", gray "in phase mark", marked "only in unswept spans in phase
-- sweep"
pub record Phases (P ph : ℕ) (t b : List ℕ) : Type 0 where
  pub none : ph ≡ off → (w : ℕ) → bit P marked b w ≡ false
  pub swept : ph ≢ sweep → (s : ℕ) → IsSpan t s → kind_entry t s < unswept_flag
  pub plain : ph ≢ mark → (w : ℕ) → bit P gray b w ≡ false
  pub unswept : ph ≡ sweep → (w : ℕ) → T (bit P marked b w) → T (unswept_at t w)

-- "Kept means marked in an unswept span, allocated elsewhere."
abbrev pub kept_at : ℕ → List ℕ → List ℕ → ℕ → Bool
kept_at P t b w = cond (unswept_at t w) (bit P marked b w) (bit P allocated b w)

-- "nil or the address of a kept element"
abbrev pub Reference : ℕ → List ℕ → List ℕ → ℕ → Type 0
Reference P t b v = (v ≡ nil) ⊎ ((v ≡ address_of (word_of v)) × T (kept_at P t b (record_of t v)))

-- "every root, and every pointer word of a kept element, is nil or the address of a kept element"
pub record References (h : Heap) : Type 0 where
  pub root : (i : ℕ) → i < first_state → Reference h.pages h.table h.bits (get_or h.roots i 0)
  pub content : (w : ℕ) → T (is pointer h w) → T (kept h (element_of h.table w)) → Reference h.pages h.table h.bits (get_or h.arena w 0)

-- "states and phase have legal values, a state of 2 only in phase mark; closed stacks are all nil"
pub record States (r : List ℕ) : Type 0 where
  pub phase : get_or r phase_at 0 ≤ sweep
  pub legal : (s : ℕ) → s < stack_count → (get_or r (state_at s) 0 ≤ gray_state) × (get_or r (state_at s) 0 ≡ gray_state → get_or r phase_at 0 ≡ mark)
  pub globals : (open_state ≤ get_or r globals_state_at 0) × (get_or r globals_state_at 0 ≤ gray_state) × (get_or r globals_state_at 0 ≡ gray_state → get_or r phase_at 0 ≡ mark)
  pub closed : (s i : ℕ) → s < stack_count → i < slot_count → get_or r (state_at s) 0 ≡ Memory.closed → get_or r (slot_at s i) 0 ≡ nil

-- "at least one [allocated] per span"
abbrev pub Occupied : ℕ → List ℕ → List ℕ → Type 0
Occupied P t b = (s : ℕ) → IsSpan t s → (w : ℕ) × T (bit P allocated b w) × (span_of t w ≡ s)

-- all of it, of a heap with the right lengths
pub record Audited (h : Heap) : Type 0 where
  pub sized : Sized h
  pub spans : Spans h.pages h.table
  pub bits : Bits h.pages h.table h.bits
  pub phases : Phases h.pages (get_or h.roots phase_at 0) h.table h.bits
  pub references : References h
  pub states : States h.roots
  pub occupied : Occupied h.pages h.table h.bits

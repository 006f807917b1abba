-- A heap of words and bits, as functions of word numbers, and what each call does to it. The four buffers are seen as such a heap (crate history,
-- proofs/View.antt). Of the files before it only `Source` of Event is used.
use Rattle.std.specs.Prelude.{◌≡◌, Bool, true, false, not, cond, ◌&&◌, ◌||◌, ℕ, zero, suc, ◌+◌, ◌<◌, T, eqb}
use Rattle.model.specs.Memory.{slot_count, address_of, word_of}
use Rattle.marking.specs.Updates.{update, update2}
use Rattle.marking.specs.Event.{Source}

-- the phase of a cycle
pub data Phase : Type 0 where
  off mark sweep : Phase

abbrev pub marking : Phase → Bool
marking off = false
marking mark = true
marking sweep = false

-- the mark and gray bits; whether the globals and which stacks are gray
pub record ColourBits : Type 0 where
  pub marked : ℕ → Bool
  pub gray : ℕ → Bool
  pub gray_globals : Bool
  pub gray_stack : ℕ → Bool

-- what the page table and the pointer bits say of an element that starts at a word: is it scan, its pointer words, its words
pub record Elements : Type 0 where
  pub scan : ℕ → Bool
  pub pointers : ℕ → ℕ
  pub words : ℕ → ℕ

-- arena words; which words have their allocated bit; the elements; which words lie in an unswept span; and the roots. A slot, a global or a
-- pointer word holds an address, 0 for nil
pub record WordHeap : Type 0 where
  pub arena : ℕ → ℕ
  pub allocated : ℕ → Bool
  pub elements : Elements
  pub unswept : ℕ → Bool
  pub bits : ColourBits
  pub slots : ℕ → ℕ → ℕ
  pub globals : ℕ → ℕ
  pub opened : ℕ → Bool
  pub phase : Phase

-- what an accepted call may take from the audit
pub record LegalColours (H : WordHeap) : Type 0 where
  pub marked_allocated : (w : ℕ) → T (H.bits.marked w) → T (H.allocated w)
  pub gray_marked : (w : ℕ) → T (H.bits.gray w) → T (H.bits.marked w)
  pub off_unmarked : H.phase ≡ off → (w : ℕ) → H.bits.marked w ≡ false
  pub mark_swept : T (marking H.phase) → (w : ℕ) → H.unswept w ≡ false

-- the same is said of an element at word w
abbrev pub Alike : Elements → Elements → ℕ → Type 0
Alike E F w = (E.scan w ≡ F.scan w) × (E.pointers w ≡ F.pointers w) × (E.words w ≡ F.words w)

-- the first word of the record that a value names. A value names a record by the address of its first word, so that the elements are not looked at.
abbrev pub named : Elements → ℕ → ℕ
named E a = word_of a

-- "Shading nil or a marked record does nothing; a white record is marked, and made gray if its span is scan."
unfoldable pub shade_bits : (scan : ℕ → Bool) (names : ℕ → ℕ) → ℕ → ColourBits → ColourBits
shade_bits scan names a B = record {
  marked = λ w. cond (eqb a 0) (B.marked w) (B.marked w || eqb w (names a));
  gray = λ w. cond (eqb a 0) (B.gray w) (B.gray w || (eqb w (names a) && (not (B.marked w) && scan w)));
  gray_globals = B.gray_globals;
  gray_stack = B.gray_stack;
}

-- g 0, g 1, .. g (n - 1) are shaded
unfoldable pub shade_all_bits : (scan : ℕ → Bool) (names : ℕ → ℕ) → (ℕ → ℕ) → ℕ → ColourBits → ColourBits
shade_all_bits scan names g zero B = B
shade_all_bits scan names g (suc n) B = shade_bits scan names (g n) (shade_all_bits scan names g n B)

-- parts changed
abbrev pub with_marked : (ℕ → Bool) → ColourBits → ColourBits
with_marked m B = record { marked = m; gray = B.gray; gray_globals = B.gray_globals; gray_stack = B.gray_stack }

abbrev pub with_gray : (ℕ → Bool) → ColourBits → ColourBits
with_gray g B = record { marked = B.marked; gray = g; gray_globals = B.gray_globals; gray_stack = B.gray_stack }

abbrev pub with_gray_globals : Bool → ColourBits → ColourBits
with_gray_globals b B = record { marked = B.marked; gray = B.gray; gray_globals = b; gray_stack = B.gray_stack }

abbrev pub with_gray_stack : (ℕ → Bool) → ColourBits → ColourBits
with_gray_stack s B = record { marked = B.marked; gray = B.gray; gray_globals = B.gray_globals; gray_stack = s }

abbrev pub heap_with_arena : (ℕ → ℕ) → WordHeap → WordHeap
heap_with_arena a H = record { arena = a; allocated = H.allocated; elements = H.elements; unswept = H.unswept; bits = H.bits; slots = H.slots; globals = H.globals; opened = H.opened; phase = H.phase }

-- the page table and the allocated bits: which words are allocated, the elements, which words are unswept
abbrev pub heap_with_spans : (ℕ → Bool) → Elements → (ℕ → Bool) → WordHeap → WordHeap
heap_with_spans a E u H = record { arena = H.arena; allocated = a; elements = E; unswept = u; bits = H.bits; slots = H.slots; globals = H.globals; opened = H.opened; phase = H.phase }

abbrev pub heap_with_bits : ColourBits → WordHeap → WordHeap
heap_with_bits B H = record { arena = H.arena; allocated = H.allocated; elements = H.elements; unswept = H.unswept; bits = B; slots = H.slots; globals = H.globals; opened = H.opened; phase = H.phase }

-- slots, globals, which stacks are open
abbrev pub heap_with_roots : (ℕ → ℕ → ℕ) → (ℕ → ℕ) → (ℕ → Bool) → WordHeap → WordHeap
heap_with_roots s g o H = record { arena = H.arena; allocated = H.allocated; elements = H.elements; unswept = H.unswept; bits = H.bits; slots = s; globals = g; opened = o; phase = H.phase }

abbrev pub heap_with_phase : Phase → WordHeap → WordHeap
heap_with_phase p H = record { arena = H.arena; allocated = H.allocated; elements = H.elements; unswept = H.unswept; bits = H.bits; slots = H.slots; globals = H.globals; opened = H.opened; phase = p }

-- THE CALLS: w is a word number, a an address
-- the first word of the record in slot j of stack t
abbrev pub record_in : WordHeap → ℕ → ℕ → ℕ
record_in H t j = named H.elements (H.slots t j)

-- what a source of stack t holds ..
abbrev pub heap_source : WordHeap → ℕ → Source → ℕ
heap_source H t Source.nil = 0
heap_source H t (Source.slot j) = H.slots t j
heap_source H t (Source.pointer j f) = H.arena (record_in H t j + f)
heap_source H t (Source.global g) = H.globals g

-- .. where there is one: a pointer word is one of a record
abbrev pub HasSource : WordHeap → ℕ → Source → Type 0
HasSource H t Source.nil = Unit {0}
HasSource H t (Source.slot j) = Unit {0}
HasSource H t (Source.pointer j f) = (0 < H.slots t j) × (f < H.elements.pointers (record_in H t j))
HasSource H t (Source.global g) = Unit {0}

-- slot i of stack t becomes a
unfoldable pub heap_assign : (t i a : ℕ) → WordHeap → WordHeap
heap_assign t i a H = heap_with_roots (update2 H.slots t i a) H.globals H.opened H

-- "in the mark phase, a store to a record or a global first shades the old value, then the new"
abbrev pub barrier_bits : WordHeap → ℕ → ℕ → ColourBits
barrier_bits H o a = cond (marking H.phase) (shade_bits H.elements.scan (named H.elements) a (shade_bits H.elements.scan (named H.elements) o H.bits)) H.bits

unfoldable pub heap_store : (w a : ℕ) → WordHeap → WordHeap
heap_store w a H = heap_with_arena (update H.arena w a) (heap_with_bits (barrier_bits H (H.arena w) a) H)

unfoldable pub heap_store_global : (g a : ℕ) → WordHeap → WordHeap
heap_store_global g a H = heap_with_roots H.slots (update H.globals g a) H.opened (heap_with_bits (barrier_bits H (H.globals g) a) H)

-- word w becomes the number n
unfoldable pub heap_put : (w n : ℕ) → WordHeap → WordHeap
heap_put w n H = heap_with_arena (update H.arena w n) H

abbrev pub stack_scanned : ℕ → ColourBits → ColourBits
stack_scanned t B = with_gray_stack (update B.gray_stack t false) B

-- stack t is opened (b true) or closed, with all slots nil
unfoldable pub heap_reset_stack : (t : ℕ) (b : Bool) → WordHeap → WordHeap
heap_reset_stack t b H = heap_with_roots (update H.slots t (λ i. 0)) H.globals (update H.opened t b)
    (heap_with_bits (stack_scanned t H.bits) H)

unfoldable pub heap_start : WordHeap → WordHeap
heap_start H = heap_with_phase mark (heap_with_bits (with_gray_globals true (with_gray_stack H.opened H.bits)) H)

unfoldable pub heap_scan_stack : ℕ → WordHeap → WordHeap
heap_scan_stack t H = heap_with_bits (stack_scanned t (shade_all_bits H.elements.scan (named H.elements) (H.slots t) slot_count H.bits)) H

-- the first n globals
unfoldable pub heap_scan_globals : ℕ → WordHeap → WordHeap
heap_scan_globals n H = heap_with_bits (shade_all_bits H.elements.scan (named H.elements) H.globals n (with_gray_globals false H.bits)) H

-- the record at word w, which has p pointer words
unfoldable pub heap_mark_step : (w p : ℕ) → WordHeap → WordHeap
heap_mark_step w p H = heap_with_bits
    (shade_all_bits H.elements.scan (named H.elements) (λ f. H.arena (w + f)) p (with_gray (update H.bits.gray w false) H.bits)) H

-- the words of `unswept` are then unswept
unfoldable pub heap_finish : (unswept : ℕ → Bool) → WordHeap → WordHeap
heap_finish unswept H = heap_with_phase sweep (heap_with_spans H.allocated H.elements unswept H)

-- a span with the words q is swept; the elements are then E
unfoldable pub heap_sweep : (q : ℕ → Bool) (E : Elements) → WordHeap → WordHeap
heap_sweep q E H =
    heap_with_spans (λ w. cond (q w) (H.bits.marked w) (H.allocated w)) E (λ w. cond (q w) false (H.unswept w))
    (heap_with_bits (with_marked (λ w. cond (q w) false (H.bits.marked w)) H.bits) H)

unfoldable pub heap_end_cycle : WordHeap → WordHeap
heap_end_cycle H = heap_with_phase off H

-- a record is born at word w, black in the mark phase, and slot i of stack t names it; arena, elements and unswept words are then as given
unfoldable pub heap_allocate : (t i w : ℕ) (arena : ℕ → ℕ) (E : Elements) (unswept : ℕ → Bool) → WordHeap → WordHeap
heap_allocate t i w arena E unswept H =
    heap_with_arena arena (heap_with_spans (update H.allocated w true) E unswept
    (heap_with_bits (with_marked (cond (marking H.phase) (update H.bits.marked w true) H.bits.marked) H.bits)
    (heap_with_roots (update2 H.slots t i (address_of w)) H.globals H.opened H)))

-- Lent memory: the four buffers with their lengths, what stands where in them, and addresses, each limit and offset named once. Addresses, page
-- numbers and word numbers are numbers here; in the code each has a type of its own (crate units).
use Rattle.std.specs.Prelude.{ℕ, ◌+◌, ◌-◌, ◌*◌, ◌/◌, Bool, ◌&&◌, cond, List, length, get_or, set, ◌==◌}
use Rattle.model.specs.Bounded.{◌≤?◌, write_run}

-- "P is the number of pages, 1 to 256."
abbrev pub max_pages : ℕ
max_pages = 256

-- "A page has 8,192 bytes, 1,024 words of 8 bytes."
abbrev pub page_bytes : ℕ
page_bytes = 8192

abbrev pub page_words : ℕ
page_words = 1024

abbrev pub word_bytes : ℕ
word_bytes = 8

-- "page table: 3 × P numbers of 32 bits."
abbrev pub entry_numbers : ℕ
entry_numbers = 3

-- .. of a page: "s+1, its page count, its kind"
abbrev pub count_offset : ℕ
count_offset = 1

abbrev pub kind_offset : ℕ
kind_offset = 2

-- "plus 256 in the kind if the span is unswept"
abbrev pub unswept_flag : ℕ
unswept_flag = 256

-- "bitmaps: 64 × P words of 64 bits"
abbrev pub bitmap_words : ℕ
bitmap_words = 64

abbrev pub word_bits : ℕ
word_bits = 64

-- "in four parts of 16 × P": the words of a page in one part; each has the bits of a block, 64 arena words
abbrev pub page_blocks : ℕ
page_blocks = 16

-- "allocated, marked, gray, pointer": the parts, each by how many stand before it; the allocated one is the first
abbrev pub marked_part : ℕ
marked_part = 1

abbrev pub gray_part : ℕ
gray_part = 2

abbrev pub pointer_part : ℕ
pointer_part = 3

-- "roots: 562 words."
abbrev pub root_words : ℕ
root_words = 562

-- P and the four buffers. They are lists of numbers; the code's types give the 64 and 32 bits.
pub record Heap : Type 0 where
  pub pages : ℕ
  pub arena : List ℕ
  pub table : List ℕ
  pub bits : List ℕ
  pub roots : List ℕ

abbrev pub lent : ℕ → List ℕ → List ℕ → List ℕ → List ℕ → Heap
lent p a t b r = record { pages = p; arena = a; table = t; bits = b; roots = r }

abbrev pub with_arena : List ℕ → Heap → Heap
with_arena l h = lent h.pages l h.table h.bits h.roots

abbrev pub with_table : List ℕ → Heap → Heap
with_table l h = lent h.pages h.arena l h.bits h.roots

abbrev pub with_bits : List ℕ → Heap → Heap
with_bits l h = lent h.pages h.arena h.table l h.roots

abbrev pub with_roots : List ℕ → Heap → Heap
with_roots l h = lent h.pages h.arena h.table h.bits l

-- one of two heaps of as many pages; the choice is made in each buffer
abbrev pub choose : Bool → Heap → Heap → Heap
choose b x y =
    lent x.pages (cond b x.arena y.arena) (cond b x.table y.table) (cond b x.bits y.bits) (cond b x.roots y.roots)

-- "Four buffers, of exactly these lengths"
unfoldable pub good_buffers : Heap → Bool
good_buffers h =
    1 ≤? h.pages && h.pages ≤? max_pages
    && length h.arena == page_words * h.pages
    && length h.table == entry_numbers * h.pages
    && length h.bits == bitmap_words * h.pages
    && length h.roots == root_words

-- "arena: 1,024 × P words of 64 bits."
abbrev pub words : Heap → ℕ
words h = page_words * h.pages

abbrev pub word : Heap → ℕ → ℕ
word h w = get_or h.arena w 0

-- the n words from `from` on, each to the value of its place
abbrev pub put_words : ℕ → ℕ → (ℕ → ℕ) → List ℕ → List ℕ
put_words from n value l = write_run (λ i v l. set l i v) from n value l

-- "Slot i of stack s is word 32s+i (16 stacks of 32 slots)"
abbrev pub stack_count : ℕ
stack_count = 16

abbrev pub slot_count : ℕ
slot_count = 32

abbrev pub slot_at : ℕ → ℕ → ℕ
slot_at s i = slot_count * s + i

-- "global g is 512+g (32 of them)"
abbrev pub global_count : ℕ
global_count = 32

abbrev pub first_global : ℕ
first_global = 512

abbrev pub global_at : ℕ → ℕ
global_at g = first_global + g

-- "544 to 559 are stack states (0 closed, 1 open, 2 open and gray)"
abbrev pub first_state : ℕ
first_state = 544

abbrev pub state_at : ℕ → ℕ
state_at s = first_state + s

abbrev pub closed : ℕ
closed = 0

-- 1: open and not gray; a stack is open where its state is not 0
abbrev pub open_state : ℕ
open_state = 1

abbrev pub gray_state : ℕ
gray_state = 2

-- "560 is the globals' state (1 or 2)"
abbrev pub globals_state_at : ℕ
globals_state_at = 560

-- "561 is the phase (0 off, 1 mark, 2 sweep)"
abbrev pub phase_at : ℕ
phase_at = 561

abbrev pub off : ℕ
off = 0

abbrev pub mark : ℕ
mark = 1

abbrev pub sweep : ℕ
sweep = 2

-- what the roots hold
abbrev pub root : Heap → ℕ → ℕ
root h i = get_or h.roots i 0

abbrev pub slot : Heap → ℕ → ℕ → ℕ
slot h s i = root h (slot_at s i)

abbrev pub global : Heap → ℕ → ℕ
global h g = root h (global_at g)

abbrev pub state : Heap → ℕ → ℕ
state h s = root h (state_at s)

abbrev pub globals_state : Heap → ℕ
globals_state h = root h globals_state_at

abbrev pub phase : Heap → ℕ
phase h = root h phase_at

abbrev pub set_root : ℕ → ℕ → Heap → Heap
set_root i v h = with_roots (set h.roots i v) h

-- "The address of arena word w is 8192 + 8w; 0 is nil."
abbrev pub nil : ℕ
nil = 0

abbrev pub first_address : ℕ
first_address = 8192

abbrev pub address_of : ℕ → ℕ
address_of w = first_address + word_bytes * w

-- the word that an address names. Subtraction is cut off at 0, so that every number below the first address gives word 0: who has to tell such a number
-- from an address asks v == address_of (word_of v), as the audit does.
abbrev pub word_of : ℕ → ℕ
word_of a = (a - first_address) / word_bytes

-- the page of word w, and the first word of page g
abbrev pub page_of : ℕ → ℕ
page_of w = w / page_words

abbrev pub first_word : ℕ → ℕ
first_word g = page_words * g

-- The page table, spans and elements: what a page's entry says, and the span and the element that a word lies in.
use Rattle.std.specs.Prelude.{ℕ, ◌+◌, ◌-◌, ◌*◌, ◌/◌, ◌%◌, Bool, ◌&&◌, not, cond, List, get_or, set, ◌==◌}
use Rattle.model.specs.Bounded.{◌<?◌, ◌≤?◌, first_below, write_run}
use Rattle.model.specs.Memory.{Heap, entry_numbers, count_offset, kind_offset, unswept_flag, page_of, first_word, word_of}
use Rattle.model.specs.Classes.{element_words_of, elements_of}
use Rattle.model.specs.Bitmaps.{is, allocated, marked, pointer}

-- the entry of page g in a page table t: "s+1, its page count, its kind"; owner: start page + 1 of the page's span, 0 for none
unfoldable pub owner : List ℕ → ℕ → ℕ
owner t g = get_or t (entry_numbers * g) 0

unfoldable pub page_count : List ℕ → ℕ → ℕ
page_count t g = get_or t (entry_numbers * g + count_offset) 0

unfoldable pub kind_entry : List ℕ → ℕ → ℕ
kind_entry t g = get_or t (entry_numbers * g + kind_offset) 0

-- an entry's three numbers
pub record Entry : Type 0 where
  pub owner : ℕ
  pub count : ℕ
  pub kind : ℕ

-- the table with page g's entry
unfoldable pub put_page : ℕ → Entry → List ℕ → List ℕ
put_page g e t =
    set (set (set t (entry_numbers * g) e.owner) (entry_numbers * g + count_offset) e.count) (entry_numbers * g + kind_offset) e.kind

-- the entries of the n pages from s on, each to that of its page
abbrev pub put_pages : ℕ → ℕ → (ℕ → Entry) → List ℕ → List ℕ
put_pages s n entry t = write_run put_page s n entry t

-- "A free page is 0, 0, 0."
abbrev pub free_page : Entry
free_page = record { owner = 0; count = 0; kind = 0 }

-- told by the first number; the audit sees to the other two
abbrev pub is_free : List ℕ → ℕ → Bool
is_free t g = owner t g == 0

-- "The first page of a span that starts at page s (from 0) is s+1, its page count, its kind ... Its further pages are s+1, 0, 0.":
-- page g of a span of n pages from s on
abbrev pub span_page : ℕ → ℕ → ℕ → ℕ → Entry
span_page s n kind g = record { owner = s + 1; count = cond (g == s) n 0; kind = cond (g == s) kind 0 }

-- a span starts at page s
abbrev pub starts_span : List ℕ → ℕ → Bool
starts_span t s = owner t s == s + 1

abbrev pub is_unswept : List ℕ → ℕ → Bool
is_unswept t s = unswept_flag ≤? kind_entry t s

abbrev pub kind_at : List ℕ → ℕ → ℕ
kind_at t s = kind_entry t s % unswept_flag

-- "Kind = 2 × class, plus 1 for noscan"
abbrev pub class_at : List ℕ → ℕ → ℕ
class_at t s = kind_at t s / 2

abbrev pub is_scan : List ℕ → ℕ → Bool
is_scan t s = kind_at t s % 2 == 0

-- the elements of the span that starts at page s: the words of each, how many, and the first word of element k
abbrev pub element_words : List ℕ → ℕ → ℕ
element_words t s = element_words_of (class_at t s) (page_count t s)

abbrev pub elements : List ℕ → ℕ → ℕ
elements t s = elements_of (class_at t s)

abbrev pub element_start : List ℕ → ℕ → ℕ → ℕ
element_start t s k = first_word s + k * element_words t s

-- the start page of the span that holds word w. A free page's owner is 0, and 0 - 1 is 0: of a word on a free page this says page 0, which means
-- nothing; it is asked of words of a span alone, or with `is_free` beside it.
abbrev pub span_of : List ℕ → ℕ → ℕ
span_of t w = owner t (page_of w) - 1

-- the number of the element that word w of the span at page s lies in
unfoldable pub element_number : List ℕ → ℕ → ℕ → ℕ
element_number t s w = (w - first_word s) / element_words t s

-- the first word of the element that word w lies in
abbrev pub element_of : List ℕ → ℕ → ℕ
element_of t w = element_start t (span_of t w) (element_number t (span_of t w) w)

-- word w lies in an element: not on a free page, not in the tail of a span
abbrev pub in_element : List ℕ → ℕ → Bool
in_element t w = not (is_free t (page_of w)) && element_number t (span_of t w) w <? elements t (span_of t w)

-- word w is the first of an element
abbrev pub starts_element : List ℕ → ℕ → Bool
starts_element t w = in_element t w && element_of t w == w

-- the first word of the record that a value names, by the page table. A value names a record by the address of its first word, so that the table is not
-- looked at.
abbrev pub record_of : List ℕ → ℕ → ℕ
record_of t v = word_of v

-- word w is a pointer word: its pointer bit is on
abbrev pub is_pointer : Heap → ℕ → Bool
is_pointer h w = is pointer h w

-- p of the record at word w: its pointer words, from its first word up to its element's end
abbrev pub pointer_count : Heap → ℕ → ℕ
pointer_count h w = first_below (element_words h.table (span_of h.table w)) (λ f. not (is_pointer h (w + f)))

-- "Kept means marked in an unswept span, allocated elsewhere."
abbrev pub kept : Heap → ℕ → Bool
kept h w = cond (is_unswept h.table (span_of h.table w)) (is marked h w) (is allocated h w)

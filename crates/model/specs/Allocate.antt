-- Allocating: the span, the element or the pages that a record takes, the sweeps that make room for it, "no room", and what the call leaves.
-- Sentences marked [2] are those of that change request. Read the sweep of one span (`swept_span` of Cycle) before them.
use Rattle.std.specs.Prelude.{ℕ, zero, suc, ◌+◌, ◌-◌, Bool, true, ◌&&◌, ◌||◌, not, List, [], ◌∷◌, ◌++◌, set, ◌==◌, if◌then◌else◌}
use Rattle.model.specs.Bounded.{◌<?◌, ◌≤?◌, ◌implies◌, all_below, first_below}
use Rattle.model.specs.Memory.{Heap, lent, words, put_words, slot_at, phase, mark, address_of, first_word}
use Rattle.model.specs.Answers.{Outcome, outcome, ◌given◌, ◌or_else◌, no_room}
use Rattle.model.specs.Classes.{class_of, kind_of, pages_for, element_words_of}
use Rattle.model.specs.Bitmaps.{is, allocated, marked, pointer, put_bit, put_bits}
use Rattle.model.specs.Spans.{kind_entry, kind_at, is_free, starts_span, is_unswept, elements, element_start, put_pages, span_page}
use Rattle.model.specs.Checks.{slot_refusal, size_refusal}
use Rattle.model.specs.Cycle.{swept_span}
use Rattle.model.specs.declared.Answer.TheVariants.{Value}

-- "its lowest free element": of the span at page s, or the number of its elements
unfoldable pub free_element : Heap → ℕ → ℕ
free_element h s = first_below (elements h.table s) (λ k. not (is allocated h (element_start h.table s k)))

-- a "swept span of this kind ... that has a free element" starts at page s (an unswept one's entry is 256 more than its kind)
abbrev pub has_room : Heap → ℕ → ℕ → Bool
has_room h kind s = starts_span h.table s && kind_entry h.table s == kind && free_element h s <? elements h.table s

-- "the swept span of this kind with the lowest start page that has a free element", or P
unfoldable pub span_with_room : Heap → ℕ → ℕ
span_with_room h kind = first_below h.pages (has_room h kind)

-- how many pages from page g on are free, up to the first that is not, in a table of P pages
unfoldable pub run_length : ℕ → List ℕ → ℕ → ℕ
run_length P t g = first_below (P - g) (λ k. not (is_free t (g + k)))

-- a "maximal run of free pages with at least n" starts at page g
unfoldable pub is_run : ℕ → List ℕ → ℕ → ℕ → Bool
is_run P t n g = is_free t g && (g == 0 || not (is_free t (g - 1))) && n ≤? run_length P t g

-- .. and none of them is shorter
unfoldable pub is_shortest : ℕ → List ℕ → ℕ → ℕ → Bool
is_shortest P t n g = is_run P t n g && all_below P (λ k. is_run P t n k implies run_length P t g ≤? run_length P t k)

-- "the shortest maximal run of free pages with at least n, among equals the lowest", or P
unfoldable pub best_run : ℕ → List ℕ → ℕ → ℕ
best_run P t n = first_below P (is_shortest P t n)

-- a swept span of the kind has a free element; a run of at least n pages is free
abbrev pub element_free : ℕ → Heap → Bool
element_free kind h = span_with_room h kind <? h.pages

abbrev pub pages_free : ℕ → Heap → Bool
pages_free n h = best_run h.pages h.table n <? h.pages

-- there is room for a record of this kind, whose new span would take n pages
abbrev pub room_for : Heap → ℕ → ℕ → Bool
room_for h kind n = element_free kind h || pages_free n h

-- 9: "no room"
unfoldable pub room_refusal : Heap → ℕ → ℕ → ℕ
room_refusal h kind n = no_room given not (room_for h kind n)

-- SWEEPING FOR ROOM. An unswept span that passes a test starts at page s
abbrev pub is_next : (Heap → ℕ → Bool) → Heap → ℕ → Bool
is_next test h s = starts_span h.table s && is_unswept h.table s && test h s

-- the one with the lowest start page, or P
unfoldable pub next_unswept : (Heap → ℕ → Bool) → Heap → ℕ
next_unswept test h = first_below h.pages (is_next test h)

-- unswept spans that pass a test are swept, "from the lowest start page until" a goal is met or none is left, and at most n of them: the heap after
-- each sweep
unfoldable pub sweep_at_most : ℕ → (Heap → Bool) → (Heap → ℕ → Bool) → Heap → List Heap
sweep_at_most zero goal test h = []
sweep_at_most (suc n) goal test h =
    let s = next_unswept test h in
    let more = swept_span s h ∷ sweep_at_most n goal test (swept_span s h) in
    if goal h || h.pages ≤? s then [] else more

-- .. as many as there may be: no more spans are unswept than there are pages
abbrev pub sweep_until : (Heap → Bool) → (Heap → ℕ → Bool) → Heap → List Heap
sweep_until goal test h = sweep_at_most h.pages goal test h

-- the last of some heaps, or h where there is none
unfoldable pub last_of : Heap → List Heap → Heap
last_of h [] = h
last_of h (g ∷ gs) = last_of g gs

-- the heap that such sweeps leave
abbrev pub swept_until : (Heap → Bool) → (Heap → ℕ → Bool) → Heap → Heap
swept_until goal test h = last_of h (sweep_until goal test h)

-- a span of the kind, by its start page; any span
abbrev pub of_kind : ℕ → Heap → ℕ → Bool
of_kind kind h s = kind_at h.table s == kind

abbrev pub any_span : Heap → ℕ → Bool
any_span h s = true

-- [2] "when no swept span of the kind has room, sweep unswept spans of that kind from the lowest start page until one has a free element (one returned
-- whole has none)"
unfoldable pub kind_sweeps : ℕ → Heap → List Heap
kind_sweeps kind h = sweep_until (element_free kind) (of_kind kind) h

-- [2] "If none has, look for pages; if no run fits, sweep the remaining spans in order and look after each."
unfoldable pub page_sweeps : ℕ → ℕ → Heap → List Heap
page_sweeps kind n h = if element_free kind h then [] else sweep_until (pages_free n) any_span h

-- all of them, in order. [2] "In the sweep phase": in the others no span is unswept, and there is none to sweep
unfoldable pub room_sweeps : ℕ → ℕ → Heap → List Heap
room_sweeps kind n h =
    let first = kind_sweeps kind h in
    first ++ page_sweeps kind n (last_of h first)

-- the first word of the element that the record takes
unfoldable pub new_word : Heap → ℕ → ℕ → ℕ
new_word h kind n =
    let s = span_with_room h kind in
    if s <? h.pages then element_start h.table s (free_element h s)
    else first_word (best_run h.pages h.table n)

-- "Otherwise take n pages for a new span: ... its first n pages. The new span counts as swept."
unfoldable pub new_table : Heap → ℕ → ℕ → List ℕ
new_table h kind n =
    let s = best_run h.pages h.table n in
    if span_with_room h kind <? h.pages then h.table else put_pages s n (span_page s n kind) h.table

-- "the allocated bit is set, the first p pointer bits are set. In the mark phase the record is born black: marked, not gray."
unfoldable pub new_bits : Heap → ℕ → ℕ → List ℕ
new_bits h w p =
    let b = put_bits (words h) pointer w p (λ v. true) (put_bit (words h) allocated w true h.bits) in
    if phase h == mark then put_bit (words h) marked w true b else b

-- "All words of the element become 0 ... The answer is the address.", on a heap that was swept for room; where it has no room
-- the call is refused, and the heap is left so
unfoldable pub place_record : Heap → ℕ → ℕ → ℕ → ℕ → Outcome
place_record h s i size p =
    let kind = kind_of size p in
    let n = pages_for size in
    let w = new_word h kind n in
    let arena = put_words w (element_words_of (class_of size) n) (λ v. 0) h.arena in
    let roots = set h.roots (slot_at s i) (address_of w) in
    outcome (room_refusal h kind n) h (Value (address_of w)) (lent h.pages arena (new_table h kind n) (new_bits h w p) roots)

-- "Into slot i of stack s, a size and p."; the refusals but 9: [2] "all others are tested before any sweep"
unfoldable pub allocate_refusal : Heap → ℕ → ℕ → ℕ → ℕ → ℕ
allocate_refusal h s i size p = slot_refusal h s i or_else size_refusal size p

-- the heap after the sweeps that make room for such a record
abbrev pub swept_for_room : Heap → ℕ → ℕ → Heap
swept_for_room h size p = last_of h (room_sweeps (kind_of size p) (pages_for size) h)

-- the heaps after the sweeps inside the call: none where it is refused before
unfoldable pub allocate_sweeps : Heap → ℕ → ℕ → ℕ → ℕ → List Heap
allocate_sweeps h s i size p = if allocate_refusal h s i size p == 0 then room_sweeps (kind_of size p) (pages_for size) h else []

-- the call: refused before any sweep, or the record put in its place on the heap that the sweeps leave. [2] "9 is given exactly when nothing fits
-- after all that and leaves every span swept, the one refusal that changes words"
unfoldable pub allocate : Heap → ℕ → ℕ → ℕ → ℕ → Outcome
allocate h s i size p =
    let placed = place_record (swept_for_room h size p) s i size p in
    outcome (allocate_refusal h s i size p) h placed.answer placed.heap

-- The audit: "Yes exactly if". Clause by clause, page by page, word by word, stack by stack, root by root.
use Rattle.std.specs.Prelude.{ℕ, ◌+◌, ◌-◌, Bool, ◌&&◌, ◌||◌, not, List, ◌==◌, if◌then◌else◌}
use Rattle.model.specs.Bounded.{◌<?◌, ◌≤?◌, ◌implies◌, all_below, some_below}
use Rattle.model.specs.Memory.{Heap, words, stack_count, slot_count, slot, state, globals_state, phase, root, closed, open_state, gray_state, off, mark, sweep, nil, address_of, word_of, word, first_state, unswept_flag}
use Rattle.model.specs.Classes.{class_pages, fewest_large, most_large, kinds}
use Rattle.model.specs.Bitmaps.{is, allocated, marked, gray}
use Rattle.model.specs.Spans.{owner, page_count, kind_entry, is_free, starts_span, is_unswept, kind_at, class_at, is_scan, elements, element_start, span_of, element_of, in_element, starts_element, is_pointer, kept, record_of}

-- "the page count is the class's (5 to 128 for class 0)"; a kind is one of the 134, and at most the unswept flag is added
unfoldable pub good_kind : List ℕ → ℕ → Bool
good_kind t s =
    kind_entry t s <? unswept_flag + unswept_flag && kind_at t s <? kinds
    && (if class_at t s == 0 then fewest_large ≤? page_count t s && page_count t s ≤? most_large else page_count t s == class_pages (class_at t s))

-- page g is a further page of the span at page s: "s+1, 0, 0"
abbrev pub is_further : List ℕ → ℕ → ℕ → Bool
is_further t s g = owner t g == s + 1 && page_count t g == 0 && kind_entry t g == 0

-- the first page of a span: "spans lie inside the arena", "unswept only in phase sweep", "at least one [allocated] per span"
unfoldable pub good_first : Heap → ℕ → Bool
good_first h s =
    let t = h.table in
    good_kind t s && s + page_count t s ≤? h.pages
    && all_below (page_count t s - 1) (λ k. is_further t s (s + 1 + k))
    && (is_unswept t s implies phase h == sweep)
    && some_below (elements t s) (λ k. is allocated h (element_start t s k))

-- "page entries are as above": page g is free, the first of a span, or a further page of one
unfoldable pub good_page : Heap → ℕ → Bool
good_page h g =
    let t = h.table in
    let s = owner t g - 1 in
    if is_free t g then page_count t g == 0 && kind_entry t g == 0
    else if starts_span t g then good_first h g
    else s <? g && starts_span t s && g <? s + page_count t s && is_further t s g

-- "allocated bits only at elements"
abbrev pub good_allocated : Heap → ℕ → Bool
good_allocated h w = is allocated h w implies starts_element h.table w

-- "marked only where allocated, none in phase off, only in unswept spans in phase sweep"
abbrev pub good_marked : Heap → ℕ → Bool
good_marked h w = is marked h w implies
    (is allocated h w && not (phase h == off) && (phase h == sweep implies is_unswept h.table (span_of h.table w)))

-- "gray only where marked, in scan spans, in phase mark"
abbrev pub good_gray : Heap → ℕ → Bool
good_gray h w = is gray h w implies (is marked h w && is_scan h.table (span_of h.table w) && phase h == mark)

-- "pointer bits are a first run of at least one word in each allocated scan element and stand nowhere else":
-- an allocated scan element begins with one, and each stands in such an element, at its first word or after another
abbrev pub good_pointer : Heap → ℕ → Bool
good_pointer h w =
    (is allocated h w && is_scan h.table (span_of h.table w) implies is_pointer h w)
    && (is_pointer h w implies
    (in_element h.table w && is_scan h.table (span_of h.table w) && is allocated h (element_of h.table w)
    && (element_of h.table w == w || is_pointer h (w - 1))))

-- "nil or the address of a kept element"
unfoldable pub is_reference : Heap → ℕ → Bool
is_reference h v = v == nil || v == address_of (word_of v) && kept h (record_of h.table v)

-- "every pointer word of a kept element, is nil or the address of a kept element"
abbrev pub good_content : Heap → ℕ → Bool
good_content h w = is_pointer h w && kept h (element_of h.table w) implies is_reference h (word h w)

-- all of that, for word w
unfoldable pub good_word : Heap → ℕ → Bool
good_word h w = good_allocated h w && good_marked h w && good_gray h w && good_pointer h w && good_content h w

-- "states and phase have legal values, a state of 2 only in phase mark; closed stacks are all nil"
unfoldable pub good_stack : Heap → ℕ → Bool
good_stack h s =
    state h s ≤? gray_state && (state h s == gray_state implies phase h == mark)
    && (state h s == closed implies all_below slot_count (λ i. slot h s i == nil))

unfoldable pub good_states : Heap → Bool
good_states h =
    phase h ≤? sweep && open_state ≤? globals_state h && globals_state h ≤? gray_state
    && (globals_state h == gray_state implies phase h == mark)

-- "every root ... is nil or the address of a kept element": the slots and the globals
abbrev pub good_root : Heap → ℕ → Bool
good_root h i = is_reference h (root h i)

-- "Yes exactly if" all of it: the phase and the globals' state, every stack, page, word, slot and global
unfoldable pub audit : Heap → Bool
audit h =
    good_states h && all_below stack_count (good_stack h) && all_below h.pages (good_page h)
    && all_below (words h) (good_word h) && all_below first_state (good_root h)

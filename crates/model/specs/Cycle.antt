-- One cycle: start, scans, mark steps, finish, sweep steps.
use Rattle.std.specs.Prelude.{ℕ, ◌+◌, ◌*◌, Bool, false, ◌&&◌, ◌||◌, not, cond, List, ◌==◌, if◌then◌else◌}
use Rattle.model.specs.Bounded.{◌<?◌, all_below, first_below, some_below, count_below}
use Rattle.model.specs.Memory.{Heap, lent, choose, with_table, with_bits, words, page_words, stack_count, slot_count, global_count, slot, global, state, root, globals_state, first_state, state_at, globals_state_at, phase_at, closed, open_state, gray_state, off, mark, sweep, set_root, put_words, with_roots, word, address_of, first_word, unswept_flag}
use Rattle.model.specs.Answers.{Outcome, outcome, ◌or_else◌, ◌given◌, unfinished}
use Rattle.model.specs.Bitmaps.{is, allocated, marked, gray, pointer, put_bit, put_bits}
use Rattle.model.specs.Spans.{owner, page_count, kind_entry, kind_at, starts_span, is_unswept, elements, element_start, element_number, is_pointer, pointer_count, Entry, free_page, put_page, put_pages, span_page}
use Rattle.model.specs.Checks.{phase_refusal, open_refusal}
use Rattle.model.specs.Shading.{shade_all, shade_count}
use Rattle.model.specs.declared.Answer.TheVariants.{Done, Value, Swept}

-- "Start (phase off): phase 1, every open stack and the globals become gray."
unfoldable pub start : Heap → Outcome
start h =
    let grayed = put_words first_state stack_count (λ i. if root h i == closed then closed else gray_state) h.roots in
    outcome (phase_refusal h off) h Done (set_root phase_at mark (set_root globals_state_at gray_state (with_roots grayed h)))

-- the n values shaded, the state at word `at` of the roots 1
abbrev pub scan : ℕ → (ℕ → ℕ) → ℕ → Heap → Heap
scan n value at h = set_root at open_state (with_bits (shade_all h.pages h.table n value h.bits) h)

-- "The answer counts the mark bits that turned on. Already scanned: 0.", and nothing changes
abbrev pub scan_outcome : ℕ → ℕ → (ℕ → ℕ) → ℕ → Heap → Outcome
scan_outcome refusal n value at h =
    let unscanned = root h at == gray_state in
    outcome refusal h (Value (cond unscanned (shade_count h.pages h.table n value h.bits) 0)) (choose unscanned (scan n value at h) h)

-- "Scan a stack, scan the globals (phase mark): shade every slot, state becomes 1."
unfoldable pub scan_stack : Heap → ℕ → Outcome
scan_stack h s = scan_outcome (phase_refusal h mark or_else open_refusal h s) slot_count (slot h s) (state_at s) h

unfoldable pub scan_globals : Heap → Outcome
scan_globals h = scan_outcome (phase_refusal h mark) global_count (global h) globals_state_at h

-- "the gray record with the lowest address", or the number of words
unfoldable pub first_gray : Heap → ℕ
first_gray h = first_below (words h) (is gray h)

-- "clear its gray bit, shade its pointer words"
unfoldable pub scan_record : ℕ → Heap → List ℕ
scan_record w h =
    shade_all h.pages h.table (pointer_count h w) (λ f. word h (w + f)) (put_bit (words h) gray w false h.bits)

-- "Mark step (phase mark): take the gray record with the lowest address ... The answer is its address, or 0 if none is gray."
unfoldable pub mark_step : Heap → Outcome
mark_step h =
    let w = first_gray h in
    let found = w <? words h in
    outcome (phase_refusal h mark) h (Value (cond found (address_of w) 0)) (choose found (with_bits (scan_record w h) h) h)

-- 10: "finish with a gray stack, gray globals or a gray record"
unfoldable pub finish_refusal : Heap → ℕ
finish_refusal h =
    phase_refusal h mark
    or_else unfinished given (some_below stack_count (λ s. state h s == gray_state) || globals_state h == gray_state || first_gray h <? words h)

-- page g's entry, unswept if it starts a span
abbrev pub unswept_page : List ℕ → ℕ → Entry
unswept_page t g =
    record { owner = owner t g; count = page_count t g; kind = kind_entry t g + (if starts_span t g then unswept_flag else 0) }

-- "Finish (phase mark): phase 2, every span becomes unswept."
unfoldable pub finish : Heap → Outcome
finish h =
    outcome (finish_refusal h) h Done (set_root phase_at sweep (with_table (put_pages 0 h.pages (unswept_page h.table) h.table) h))

-- "the unswept span with the lowest start page", or P
unfoldable pub first_unswept : ℕ → List ℕ → ℕ
first_unswept P t = first_below P (λ s. starts_span t s && is_unswept t s)

-- "Allocated becomes marked, marks go, pointer bits of freed elements go": over the words of the span at page s.
-- A pointer bit stays where the element that it lies in is marked.
unfoldable pub swept_bits : Heap → ℕ → List ℕ
swept_bits h s =
    let first = first_word s in
    let n = page_words * page_count h.table s in
    put_bits (words h) marked first n (λ w. false)
    (put_bits (words h) allocated first n (is marked h)
    (put_bits (words h) pointer first n (λ w. is_pointer h w && is marked h (element_start h.table s (element_number h.table s w))) h.bits))

-- "elements freed": allocated and not marked
unfoldable pub freed_count : Heap → ℕ → ℕ
freed_count h s =
    count_below (elements h.table s) (λ k. is allocated h (element_start h.table s k) && not (is marked h (element_start h.table s k)))

-- "if nothing is left": no element of the span is marked
unfoldable pub nothing_left : Heap → ℕ → Bool
nothing_left h s = all_below (elements h.table s) (λ k. not (is marked h (element_start h.table s k)))

-- "the unswept flag goes; if nothing is left its pages become free"
unfoldable pub swept_table : Heap → ℕ → List ℕ
swept_table h s =
    let n = page_count h.table s in
    if nothing_left h s then put_pages s n (λ g. free_page) h.table
    else put_page s (span_page s n (kind_at h.table s) s) h.table

-- the heap with the span at page s swept. [2] "The phase stays sweep until a sweep step finds nothing."
abbrev pub swept_span : ℕ → Heap → Heap
swept_span s h = lent h.pages h.arena (swept_table h s) (swept_bits h s) h.roots

-- "Sweep step (phase sweep): take the unswept span with the lowest start page. ... The answer is start page + 1, elements freed, pages returned.
-- If no span is unswept: 0, 0, 0, and the phase becomes 0"
unfoldable pub sweep_step : Heap → Outcome
sweep_step h =
    let s = first_unswept h.pages h.table in
    let found = s <? h.pages in
    let returned = if nothing_left h s then page_count h.table s else 0 in
    outcome (phase_refusal h sweep) h (cond found (Swept (s + 1) (freed_count h s) returned) (Swept 0 0 0))
    (choose found (swept_span s h) (set_root phase_at off h))

-- The refusals that the calls share, each a row of the table of refusals.
use Rattle.std.specs.Prelude.{ℕ, ◌/◌, ◌||◌, not, ◌==◌}
use Rattle.model.specs.Bounded.{◌<?◌, ◌≤?◌}
use Rattle.model.specs.Memory.{Heap, good_buffers, stack_count, slot_count, global_count, state, phase, slot, closed, nil, word_bytes}
use Rattle.model.specs.Answers.{◌given◌, ◌or_else◌, bad_buffers, wrong_phase, bad_stack, bad_slot, bad_size, nil_slot, bad_field}
use Rattle.model.specs.Classes.{max_size}
use Rattle.model.specs.Spans.{element_words, span_of, pointer_count, record_of}

-- 1: "P or a length is not as above"
abbrev pub buffers_refusal : Heap → ℕ
buffers_refusal h = bad_buffers given not (good_buffers h)

-- 2: "the call is not for this phase"
abbrev pub phase_refusal : Heap → ℕ → ℕ
phase_refusal h ph = wrong_phase given not (phase h == ph)

-- 3: "number above 15; not open; for opening, already open": the stack has to be open
abbrev pub open_refusal : Heap → ℕ → ℕ
open_refusal h s = bad_stack given (stack_count ≤? s || state h s == closed)

-- for opening: the stack has to be closed
abbrev pub closed_refusal : Heap → ℕ → ℕ
closed_refusal h s = bad_stack given (stack_count ≤? s || not (state h s == closed))

-- 4: "a slot or global above 31"
abbrev pub slot_number_refusal : ℕ → ℕ
slot_number_refusal i = bad_slot given slot_count ≤? i

abbrev pub global_number_refusal : ℕ → ℕ
global_number_refusal g = bad_slot given global_count ≤? g

-- 5: "size 0 or above 1,048,576, or p above size/8 rounded down"
abbrev pub size_refusal : ℕ → ℕ → ℕ
size_refusal size p = bad_size given (size == 0 || max_size <? size || size / word_bytes <? p)

-- 6: "the slot that should name a record holds nil"
abbrev pub nil_refusal : Heap → ℕ → ℕ → ℕ
nil_refusal h s j = nil_slot given slot h s j == nil

-- 7: "field outside the range the call names"; of the record at word w, "f below p"
abbrev pub pointer_field_refusal : Heap → ℕ → ℕ → ℕ
pointer_field_refusal h w f = bad_field given pointer_count h w ≤? f

-- 7, where the range is "from p up to the element's last word"
abbrev pub number_field_refusal : Heap → ℕ → ℕ → ℕ
number_field_refusal h w f = bad_field given (f <? pointer_count h w || element_words h.table (span_of h.table w) ≤? f)

-- the first word of the record in slot j of stack s
abbrev pub record_at : Heap → ℕ → ℕ → ℕ
record_at h s j = record_of h.table (slot h s j)

-- the checks that several calls make: slot i of an open stack s; slots i and j; a global and a slot
unfoldable pub slot_refusal : Heap → ℕ → ℕ → ℕ
slot_refusal h s i = open_refusal h s or_else slot_number_refusal i

unfoldable pub slots_refusal : Heap → ℕ → ℕ → ℕ → ℕ
slots_refusal h s i j = open_refusal h s or_else slot_number_refusal i or_else slot_number_refusal j

unfoldable pub global_refusal : Heap → ℕ → ℕ → ℕ → ℕ
global_refusal h s i g = open_refusal h s or_else slot_number_refusal i or_else global_number_refusal g

-- pointer word f of the record in slot j, and another slot i
unfoldable pub pointer_refusal : Heap → ℕ → ℕ → ℕ → ℕ → ℕ
pointer_refusal h s i j f =
    slots_refusal h s i j or_else nil_refusal h s j or_else pointer_field_refusal h (record_at h s j) f

-- number word f of the record in slot j
unfoldable pub number_refusal : Heap → ℕ → ℕ → ℕ → ℕ
number_refusal h s j f =
    slot_refusal h s j or_else nil_refusal h s j or_else number_field_refusal h (record_at h s j) f

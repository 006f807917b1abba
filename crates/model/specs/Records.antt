-- Setup, and the other calls on records, stacks and globals, each after the test of the lengths and, for all but setup, the audit (Calls.run).
use Rattle.std.specs.Prelude.{ℕ, ◌+◌, ◌*◌, set, replicate}
use Rattle.model.specs.Memory.{Heap, lent, with_arena, with_bits, with_roots, entry_numbers, bitmap_words, root_words, slot_count, slot_at, global_at, state_at, globals_state_at, slot, global, word, put_words, set_root, nil, open_state, closed}
use Rattle.model.specs.Answers.{Outcome, outcome}
use Rattle.model.specs.Checks.{open_refusal, closed_refusal, slot_refusal, slots_refusal, global_refusal, pointer_refusal, number_refusal, record_at}
use Rattle.model.specs.Shading.{barrier}
use Rattle.model.specs.declared.Answer.TheVariants.{Done, Value}

-- "Setup zeroes the page table, bitmaps and roots, then sets word 560 to 1. The arena is left alone."
unfoldable pub fresh : Heap → Heap
fresh h =
    lent h.pages h.arena (replicate (entry_numbers * h.pages) 0) (replicate (bitmap_words * h.pages) 0)
    (set (replicate root_words 0) globals_state_at open_state)

-- "Setup, start and finish answer 0."
unfoldable pub setup : Heap → Outcome
setup h = record { answer = Done; heap = fresh h }

-- "slots nil", and the stack's state
unfoldable pub emptied : Heap → ℕ → ℕ → Heap
emptied h s state = with_roots (set (put_words (slot_at s 0) slot_count (λ i. nil) h.roots) (state_at s) state) h

-- "open a stack (all slots nil, state 1 in every phase)"
unfoldable pub open_stack : Heap → ℕ → Outcome
open_stack h s = outcome (closed_refusal h s) h Done (emptied h s open_state)

-- "close a stack (slots nil, state 0)"
unfoldable pub close_stack : Heap → ℕ → Outcome
close_stack h s = outcome (open_refusal h s) h Done (emptied h s closed)

-- "A call that sets a slot answers its new value; get answers the number; the others answer 0.": refused by n, or slot i of stack s becomes v
abbrev pub slot_becomes : ℕ → Heap → ℕ → ℕ → ℕ → Outcome
slot_becomes n h s i v = outcome n h (Value v) (set_root (slot_at s i) v h)

-- "Copy (slot i becomes slot j)"
unfoldable pub copy : Heap → ℕ → ℕ → ℕ → Outcome
copy h s i j = slot_becomes (slots_refusal h s i j) h s i (slot h s j)

-- "clear a slot"
unfoldable pub clear : Heap → ℕ → ℕ → Outcome
clear h s i = slot_becomes (slot_refusal h s i) h s i nil

-- "Load: slot i becomes pointer word f (f below p) of the record in slot j."
unfoldable pub load : Heap → ℕ → ℕ → ℕ → ℕ → Outcome
load h s i j f = slot_becomes (pointer_refusal h s i j f) h s i (word h (record_at h s j + f))

-- "Store: pointer word f of the record in slot j becomes slot k, nil allowed", after the barrier
unfoldable pub store : Heap → ℕ → ℕ → ℕ → ℕ → Outcome
store h s j f k =
    let w = record_at h s j + f in
    let v = slot h s k in
    outcome (pointer_refusal h s k j f) h Done (with_arena (set h.arena w v) (with_bits (barrier h (word h w) v) h))

-- "Put and get a 64-bit number at word f, from p up to the element's last word."
unfoldable pub put : Heap → ℕ → ℕ → ℕ → ℕ → Outcome
put h s j f v = outcome (number_refusal h s j f) h Done (with_arena (set h.arena (record_at h s j + f) v) h)

unfoldable pub get : Heap → ℕ → ℕ → ℕ → Outcome
get h s j f = outcome (number_refusal h s j f) h (Value (word h (record_at h s j + f))) h

-- "Load a global into a slot"
unfoldable pub load_global : Heap → ℕ → ℕ → ℕ → Outcome
load_global h s i g = slot_becomes (global_refusal h s i g) h s i (global h g)

-- "store a slot to a global", after the barrier
unfoldable pub store_global : Heap → ℕ → ℕ → ℕ → Outcome
store_global h s g i =
    let v = slot h s i in
    outcome (global_refusal h s i g) h Done (set_root (global_at g) v (with_bits (barrier h (global h g) v) h))

-- The table of proved cases, and the agreement of limits.
use Rattle.std.specs.Prelude.{ℕ, ◌+◌, ◌*◌, ◌≡◌, refl, List, [], ◌∷◌, map, length}
use Rattle.model.specs.Bounded.{all_below, first_from, first_below, ◌implies◌}
use Rattle.model.specs.Memory.{page_bytes, page_words, word_bytes, bitmap_words, word_bits, page_blocks, stack_count, slot_count, global_count, first_global, first_state, globals_state_at, phase_at, root_words}
use Rattle.model.specs.Classes.{rows, kinds, max_small, max_size, fewest_large, most_large, class_rows, element_bytes, span_bytes, class_pages, class_of, kind_of, pages_for}
use Rattle.model.specs.Spans.{owner}
use Rattle.model.specs.Allocate.{run_length, is_run, is_shortest, best_run}

-- "With free runs at pages 0 to 2 and 5 to 6": pages 3 and 4 are one span, the last page is 6
unfoldable pub two_runs : List ℕ
two_runs = 0 ∷ 0 ∷ 0 ∷ 0 ∷ 0 ∷ 0 ∷ 0 ∷ 0 ∷ 0 ∷ 4 ∷ 2 ∷ 116 ∷ 4 ∷ 0 ∷ 0 ∷ 0 ∷ 0 ∷ 0 ∷ 0 ∷ 0 ∷ 0 ∷ []

pub record Cases : Type 0 where
  -- "sizes 16, 17, 32, 1,024, 1,025, 32,768 take classes 2, 3, 3, 31, 32, 66; 32,769 takes class 0 ..; 1,048,576 class 0"
  pub classes : map class_of (16 ∷ 17 ∷ 32 ∷ 1024 ∷ 1025 ∷ 32768 ∷ 32769 ∷ 1048576 ∷ []) ≡ (2 ∷ 3 ∷ 3 ∷ 31 ∷ 32 ∷ 66 ∷ 0 ∷ 0 ∷ [])
  -- "32,769 takes class 0 with 5 pages; 1,048,576 class 0 with 128"
  pub large : map pages_for (32769 ∷ 1048576 ∷ []) ≡ (5 ∷ 128 ∷ [])
  -- "Size 17 has kind 6 with p = 1 and 7 with p = 0."
  pub kinds : map (kind_of 17) (1 ∷ 0 ∷ []) ≡ (6 ∷ 7 ∷ [])
  -- "a need of 1, 2, 3 pages starts at 5, 5, 0"
  pub runs : map (best_run 7 two_runs) (1 ∷ 2 ∷ 3 ∷ []) ≡ (5 ∷ 5 ∷ 0 ∷ [])

pub cases : Cases
unfolding class_of kind_of pages_for class_pages element_bytes span_bytes class_rows two_runs best_run is_shortest is_run run_length owner all_below first_below first_from ◌implies◌
cases = record { classes = refl; large = refl; kinds = refl; runs = refl }

-- The limits that follow from others agree with them.
pub record Agree : Type 0 where
  pub page : page_bytes ≡ page_words * word_bytes
  pub blocks : page_blocks * word_bits ≡ page_words
  pub bits : bitmap_words ≡ 4 * page_blocks
  pub slots_end : first_global ≡ stack_count * slot_count
  pub globals_end : first_state ≡ first_global + global_count
  pub states_end : globals_state_at ≡ first_state + stack_count
  pub before_phase : phase_at ≡ globals_state_at + 1
  pub roots : root_words ≡ phase_at + 1
  pub table : rows ≡ length class_rows
  pub kinds_of : kinds ≡ 2 * (rows + 1)
  pub large : fewest_large ∷ most_large ∷ [] ≡ map pages_for ((max_small + 1) ∷ max_size ∷ [])

pub agree : Agree
unfolding class_of pages_for class_pages element_bytes span_bytes class_rows first_below first_from
agree =
    record { page = refl; blocks = refl; bits = refl; slots_end = refl; globals_end = refl; states_end = refl; before_phase = refl; roots = refl; table = refl; kinds_of = refl; large = refl }

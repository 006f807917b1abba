-- The lowest gray record; what the scan of a gray record requires, and what it leaves; and a part of the refusal of a finish.
use Rattle.std.specs.Prelude.{ℕ, ◌<◌, true, ◌||◌, List, Option, Some, None, ◌≡◌, ◌==◌}
use Rattle.model.specs.Bounded.{some_below}
use Rattle.model.specs.Memory.{Heap, lent, words, phase, mark, state, globals_state, stack_count, gray_state}
use Rattle.model.specs.Answers.{◌given◌, unfinished}
use Rattle.model.specs.Bitmaps.{is, gray}
use Rattle.model.specs.Cycle.{first_gray, scan_record}
use Rattle.model.specs.Facts.{Audited}
use Rattle.model.specs.Promises.{Borrowed, Buffer}
use Rattle.units.specs.declared.Word.{Word}

-- the first word of the lowest gray record, where there is one
abbrev pub FirstGray : Heap → Option Word → Type 0
FirstGray h (Some w) = (w.0 ≡ first_gray h) × (w.0 < words h)
FirstGray h None = first_gray h ≡ words h

-- a gray record, of an audited heap
pub record Gray (h : Heap) (w : ℕ) : Type 0 where
  pub audited : Audited h
  pub marking : phase h ≡ mark
  pub grays : is gray h w ≡ true

-- .. of lent buffers, with some roots
abbrev pub LentGray : ℕ → Borrowed → Borrowed → Borrowed → ℕ → Type 0
LentGray p arena table bits w = (r : List ℕ) × Gray (lent p arena table bits r) w

-- the bitmaps after its scan, for any roots
abbrev pub ScansRecord : ℕ → Buffer → Buffer → Buffer → ℕ → Type 0
ScansRecord p arena table bits w =
    (r : List ℕ) → bits.exit ≡ scan_record w (lent p arena.entry table.entry bits.entry r)

-- the refusal of a finish by the roots: a stack or the globals are gray
abbrev pub roots_refusal : Heap → ℕ
roots_refusal h = unfinished given (some_below stack_count (λ s. state h s == gray_state) || globals_state h == gray_state)

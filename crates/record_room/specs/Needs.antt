-- What the search for room gives: the place of a record, and the page table and the bitmaps that the sweeps for it leave, whatever the arena.
use Rattle.std.specs.Prelude.{ℕ, not, List, Result, IfOk, ◌≡◌}
use Rattle.model.specs.Memory.{Heap, lent}
use Rattle.model.specs.Answers.{◌or_else◌}
use Rattle.model.specs.Classes.{kind_of, pages_for}
use Rattle.model.specs.Allocate.{element_free, new_word, room_refusal, last_of, room_sweeps, allocate_refusal, allocate_sweeps}
use Rattle.model.specs.Facts.{Audited}
use Rattle.model.specs.Refusals.{refused}
use Rattle.model.specs.declared.Refusal.{Refusal}
use Rattle.model.specs.Promises.{Buffer, found_with}
use Rattle.classes.specs.Shape.{Shaped}
use Rattle.classes.specs.declared.Shape.{Shape}
use Rattle.record_room.specs.declared.RecordPlace.{RecordPlace}

-- the heap that a function leaves, with whatever arena
abbrev pub left_with : List ℕ → ℕ → Buffer → Buffer → Buffer → Heap
left_with a p table bits roots = lent p a table.exit bits.exit roots.exit

-- the place of a record of this kind on the heap g, whose new span has n pages: its first word, and whether its span is to be made
pub record PlaceIn (g : Heap) (kind n : ℕ) (place : RecordPlace) : Type 0 where
  pub word : place.word.0 ≡ new_word g kind n
  pub fresh : place.fresh ≡ not (element_free kind g)

-- what the search has found on the heap g, swept for such a record: the refusal that is due, or the place; and the page table and the bitmaps are
-- those of g
pub record Found (g : Heap) (due kind n : ℕ) (r : Result RecordPlace Refusal) (t b : List ℕ) : Type 0 where
  pub number : refused r ≡ due
  pub place : IfOk r (PlaceIn g kind n)
  pub table : t ≡ g.table
  pub bits : b ≡ g.bits

-- the place of a record of a shape
pub record PlaceOf (shape : Shape) (h h' : Heap) (r : Result RecordPlace Refusal) : Type 0 where
  pub found : let g = last_of h (room_sweeps shape.kind shape.pages h) in
      Found g (room_refusal g shape.kind shape.pages) shape.kind shape.pages r h'.table h'.bits
  pub same : IfOk r (λ place. place.shape ≡ shape)

abbrev pub FindsPlace : Shape → ℕ → Buffer → Buffer → Buffer → Result RecordPlace Refusal → Type 0
FindsPlace shape p table bits roots r =
    (a : List ℕ) → let h = found_with a p table bits roots in Audited h → PlaceOf shape h (left_with a p table bits roots) r

-- that of a record of this size with q pointer words, for slot i of stack s, and its shape
pub record PlaceFor (s i size q : ℕ) (h h' : Heap) (r : Result RecordPlace Refusal) : Type 0 where
  pub found : let g = last_of h (allocate_sweeps h s i size q) in
      Found g (allocate_refusal h s i size q or_else room_refusal g (kind_of size q) (pages_for size)) (kind_of size q) (pages_for size) r h'.table h'.bits
  pub shaped : IfOk r (λ place. Shaped size q place.shape)

abbrev pub ChoosesPlace : ℕ → ℕ → ℕ → ℕ → ℕ → Buffer → Buffer → Buffer → Result RecordPlace Refusal → Type 0
ChoosesPlace s i size q p table bits roots r =
    (a : List ℕ) → let h = found_with a p table bits roots in Audited h → PlaceFor s i size q h (left_with a p table bits roots) r

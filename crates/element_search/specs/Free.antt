-- What the searches for a free element find.
use Rattle.std.specs.Prelude.{ℕ, ◌<◌, ◌≤◌, true, false, Option, Some, None, ◌≡◌}
use Rattle.model.specs.Bounded.{◌<?◌}
use Rattle.model.specs.Memory.{Heap}
use Rattle.model.specs.Spans.{element_start}
use Rattle.model.specs.Allocate.{free_element, has_room, span_with_room}
use Rattle.units.specs.declared.Word.{Word}

-- the lowest free element of the span at page s, by its first word, if it is a swept span of the kind and has one
abbrev pub FreeIn : Heap → ℕ → ℕ → Option Word → Type 0
FreeIn h kind s (Some word) = (has_room h kind s ≡ true) × (word.0 ≡ element_start h.table s (free_element h s))
FreeIn h kind s None = has_room h kind s ≡ false

-- that of the lowest swept span of the kind that has room, of those that start from page `from` on and before page `to`: at page s ..
pub record Lowest (h : Heap) (kind from to : ℕ) (word : Word) : Type 0 where
  pub page : ℕ
  pub low : from ≤ page
  pub high : page < to
  pub before : (k : ℕ) → from ≤ k → k < page → has_room h kind k ≡ false
  pub here : FreeIn h kind page (Some word)

-- .. or none of them has any
abbrev pub FreeBetween : Heap → ℕ → ℕ → ℕ → Option Word → Type 0
FreeBetween h kind from to (Some word) = Lowest h kind from to word
FreeBetween h kind from to None = (k : ℕ) → from ≤ k → k < to → has_room h kind k ≡ false

-- that of the lowest swept span of the kind that has room, of all
abbrev pub FreeOf : Heap → ℕ → Option Word → Type 0
FreeOf h kind (Some word) =
    let s = span_with_room h kind in ((s <? h.pages) ≡ true) × (word.0 ≡ element_start h.table s (free_element h s))
FreeOf h kind None = (span_with_room h kind <? h.pages) ≡ false

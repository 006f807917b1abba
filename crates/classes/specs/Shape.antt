-- The shape of a record.
use Rattle.std.specs.Prelude.{ℕ, ◌≡◌}
use Rattle.model.specs.Classes.{class_of, kind_of, pages_for, element_words_of}
use Rattle.classes.specs.declared.Shape.{Shape}

-- what a size and a number p of pointer words decide
pub record Shaped (size p : ℕ) (r : Shape) : Type 0 where
  pub kind : r.kind ≡ kind_of size p
  pub pages : r.pages ≡ pages_for size
  pub words : r.words ≡ element_words_of (class_of size) (pages_for size)

-- `class_table::row_of` meets its contract: the code's table and the model's rows in words and pages are one list.
use Prim.Native.Nat.{ℕ, ◌-◌, ◌/◌}
use mathlib.Core.List.{map}
use mathlib.Core.Path.{◌≡◌}
use lib.ListN.{get_or, get_or-map}
use Rattle.model.specs.declared.ClassRow.{ClassRow}
use Rattle.model.specs.Memory.{page_bytes, word_bytes}
use Rattle.model.specs.Classes.{◌per◌, class_rows, element_bytes, span_bytes, class_pages}
use Rattle.class_table.specs.declared.Row.{Row}
use Rattle.class_table.proofs.row_of.Goals as goal

abbrev compact : ClassRow → Row
compact r = (r.element / word_bytes, r.span / page_bytes)

-- row k is that of class k + 1
abbrev row_of_table : ℕ → Row
row_of_table k = get_or (map compact class_rows) k (compact (0 per 0))

row_at : (c : ℕ) → ((row_of_table (c - 1)).0 ≡ element_bytes c / word_bytes) × ((row_of_table (c - 1)).1 ≡ class_pages c)
unfolding element_bytes span_bytes class_pages
row_at c = let f = get_or-map compact class_rows (c - 1) (0 per 0) in (rw f, rw f)

pub returns : goal.returns
unfolding class_rows
returns c = row_at c.args.c

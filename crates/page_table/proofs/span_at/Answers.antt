-- `page_table::span_at` meets its contract. A page count of the table fits 32 bits.
use Prim.Native.Nat.{◌+◌, ◌*◌}
use mathlib.Core.Path.{refl}
use native.Mathlib.Omega.{arith}
use Rattle.model.specs.Memory.{entry_numbers, count_offset}
use Rattle.model.specs.Spans.{page_count}
use Rattle.page_table.proofs.span_at.Goals as goal

pub returns : goal.returns
unfolding page_count
returns c =
    let k = c.kind_entry-flagged.ensures in
    record { start = refl; pages = c.page_count.ensures; flagged = k; kind = rw k; class = rw k; scan = rw k; unswept = rw k; narrow = omega (arith, c.page_count.ensures, c.type_inv.table (entry_numbers * c.args.s.0 + count_offset)) }

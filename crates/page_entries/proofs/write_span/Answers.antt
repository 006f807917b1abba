use Rattle.page_entries.proofs.Entries.{one_written}
use borrow.Author.Tests.{eq-eqb}
use mathlib.Core.Path.{refl}
use Rattle.page_entries.proofs.write_span.Goals as goal

pub loop-k-init : goal.loop-k-init
loop-k-init c = let s = c.args.s.0 in rw (one_written, eq-eqb s s refl) c.put_entry.ensures

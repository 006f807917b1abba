-- `class_lookup::coarse_class` meets its contract: the code's table is what antt computes from the class table, entry for entry.
use borrow.Author.Rules.{rules}
use Rattle.model.specs.Bounded.{first_below, first_from}
use Rattle.model.specs.Classes.{class_rows, element_bytes, class_of}
use Rattle.class_lookup.specs.Tables.{coarse_entries, coarse_size}
use Rattle.class_lookup.proofs.Entries.{entries, entry_at}
use Rattle.class_lookup.proofs.coarse_class.Goals as goal

pub returns : goal.returns
unfolding entries class_of first_below first_from element_bytes class_rows
returns c = entry_at coarse_entries (λ i. class_of (coarse_size i)) c.args.i (search rules)

-- `heap_store`: the entry check, then the audited call; the answer of either is written out.
use mathlib.Core.Path.{sym}
use Rattle.model.proofs.Checks.{entry_passed}
use Rattle.c_records.proofs.heap_store.Goals as goal

pub store-answer-requires : goal.store-answer-requires
store-answer-requires c = entry_passed _ (sym c.in_default.ensures)

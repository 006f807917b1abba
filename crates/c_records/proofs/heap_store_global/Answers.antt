-- `heap_store_global`: the entry check, then the audited call; the answer of either is written out.
use mathlib.Core.Path.{sym}
use Rattle.model.proofs.Checks.{entry_passed}
use Rattle.c_records.proofs.heap_store_global.Goals as goal

pub store_global-answer-requires : goal.store_global-answer-requires
store_global-answer-requires c = (_, entry_passed _ (sym c.in_default.ensures))

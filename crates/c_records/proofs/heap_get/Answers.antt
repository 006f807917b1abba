-- `heap_get`: the entry check, then the audited call; the answer of either is written out.
use mathlib.Core.Path.{sym}
use Rattle.model.proofs.Checks.{entry_passed}
use Rattle.c_records.proofs.heap_get.Goals as goal

pub get-answer-requires : goal.get-answer-requires
get-answer-requires c = entry_passed _ (sym c.in_default.ensures)

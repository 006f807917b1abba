-- `heap_put`: the entry check, then the audited call; the answer of either is written out.
use mathlib.Core.Path.{sym}
use Rattle.model.proofs.Checks.{entry_passed}
use Rattle.c_records.proofs.heap_put.Goals as goal

pub put-answer-requires : goal.put-answer-requires
put-answer-requires c = entry_passed _ (sym c.in_default.ensures)

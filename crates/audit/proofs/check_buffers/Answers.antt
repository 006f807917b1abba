use Rattle.model.proofs.Answers.{yes, no}
use Rattle.audit.proofs.Refusals.{bad_lengths, good_lengths}
use Rattle.audit.proofs.check_buffers.Goals as goal

pub returns-then-not-buffers_ok : goal.returns-then-not-buffers_ok
returns-then-not-buffers_ok c = bad_lengths _ (no c.buffers_ok.result c.buffers_ok.ensures c.if-not-buffers_ok.true)

pub returns : goal.returns
returns c = good_lengths _ (yes c.buffers_ok.result c.buffers_ok.ensures c.if-not-buffers_ok.false)

-- What comes back of the slice is its words before the part, the zeroed part, its words behind it.
use Rattle.zeroing.proofs.Runs.{part_filled}
use Rattle.zeroing.proofs.zero_part.Goals as goal

pub returns : goal.returns
returns c = part_filled c.args.first c.args.n 0 c.args.ws.now c.requires c.zero.ensures

-- `heap::asks_audit` meets its contract: setup does not, and each other call does.
use mathlib.Core.Path.{sym}
use Rattle.heap.proofs.Asks.{asks}
use Rattle.heap.proofs.asks_audit.Goals as goal

pub returns-in-Setup : goal.returns-in-Setup
returns-in-Setup c = rw c.in-Setup.is

pub returns-in_default : goal.returns-in_default
returns-in_default c = sym (asks c.args.call c.in_default.not-Setup)

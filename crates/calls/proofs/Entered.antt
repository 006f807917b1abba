-- A call that was let in before it was matched was let in as the call that it is found to be.
use mathlib.Core.Path.{◌≡◌}
use Rattle.model.specs.Memory.{Heap}
use Rattle.model.specs.Calls.{entry_refusal}
use Rattle.model.specs.declared.Call.{Call}

pub let_in : (h : Heap) {c : Call} (d : Call) → c ≡ d → entry_refusal h c ≡ 0 → entry_refusal h d ≡ 0
let_in h d e z = rw e at z

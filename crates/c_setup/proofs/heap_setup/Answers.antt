-- `heap_setup`: the test of the lengths, then setup; the answer of either is written out.
use mathlib.Core.Path.{sym}
use Rattle.model.specs.declared.Call.TheVariants.{Setup}
use Rattle.model.proofs.Checks.{lengths_passed}
use Rattle.model.proofs.Outcomes.{entered}
use Rattle.call_setup.proofs.Emptied.{set_up}
use Rattle.c_setup.proofs.heap_setup.Goals as goal

pub setup-told-requires : goal.setup-told-requires
setup-told-requires c = (lengths_passed _ (sym c.in_default.ensures)).roots

pub returns : goal.returns
returns c =
    let zero = sym c.in_default.ensures in
    (_, (entered _ Setup zero (set_up _ (lengths_passed _ zero) c.setup-told.ensures), rw c.from-2.ensures at c.write_answer-2.ensures))

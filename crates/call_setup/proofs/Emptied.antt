-- What setup leaves is the fresh heap, for buffers of the lengths that P asks for.
use mathlib.Core.List.{List}
use mathlib.Core.Path.{refl}
use Prim.Native.Nat.{ℕ}
use Rattle.model.specs.Memory.{Heap}
use Rattle.model.specs.Answers.{Meets}
use Rattle.model.specs.Records.{fresh, setup}
use Rattle.model.specs.Facts.{Sized}
use Rattle.model.specs.declared.Answer.{Answer}
use Rattle.call_setup.specs.SetUp.{Emptied}

pub set_up : (h : Heap) {t b s : List ℕ} {r : Answer} → Sized h → Emptied h.table h.bits h.roots t b s r → Meets (setup h) r h.arena t b s
unfolding setup fresh
set_up h Z E =
    rw (E.table, E.bits, E.roots, E.answer, Z.table, Z.bits, Z.roots)
    (record { answer = refl; listed = refl; arena = refl; table = refl; bits = refl; roots = refl })

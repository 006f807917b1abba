-- Laws of refusals as the code has them: each has a number that is not 0, and it comes first in a row of refusals; a check that gave none leaves the rest of the row.
use Prim.Native.Nat.{ℕ}
use mathlib.Core.Bool.{false}
use mathlib.Core.Logic.{◌≢◌}
use mathlib.Core.Path.{◌≡◌, refl}
use lib.Dec.{eqb}
use borrow.Author.Tests.{eqb-false}
use Rattle.model.specs.Memory.{Heap}
use Rattle.model.specs.Answers.{◌or_else◌, outcome, Meets}
use Rattle.model.specs.Refusals.{number_of}
use Rattle.model.specs.declared.Answer.{Answer}
use Rattle.model.specs.declared.Answer.TheVariants.{Refused}
use Rattle.model.specs.declared.Refusal.{Refusal}
use Rattle.model.specs.declared.Refusal.TheVariants.{BadBuffers, Damaged, WrongPhase, BadStack, BadSlot, BadSize, NilSlot, BadField, NoRoom, Unfinished}
use Rattle.model.proofs.Outcomes.{refused}

pub number_tested : (r : Refusal) → eqb (number_of r) 0 ≡ false
number_tested r =
    elim r as (λ x. eqb (number_of x) 0 ≡ false) [ BadBuffers ↦ refl | Damaged ↦ refl | WrongPhase ↦ refl | BadStack ↦ refl | BadSlot ↦ refl | BadSize ↦ refl | NilSlot ↦ refl | BadField ↦ refl | NoRoom ↦ refl | Unfinished ↦ refl ]

pub number_some : (r : Refusal) → number_of r ≢ 0
number_some r = eqb-false (number_of r) 0 (number_tested r)

-- in a row of refusals the first counts, and where there is none the rest does
pub refusal_first : (r : Refusal) (rest : ℕ) → (number_of r or_else rest) ≡ number_of r
unfolding ◌or_else◌
refusal_first r rest = rw (number_tested r)

pub none_first : (rest : ℕ) → (0 or_else rest) ≡ rest
unfolding ◌or_else◌
none_first rest = refl

-- a refusal whose number the checks give is the answer, and no buffer changes
pub refused_by : (r : Refusal) (h : Heap) (x : Answer) (d : Heap) {m : ℕ} → number_of r ≡ m → Meets (outcome m h x d) (Refused (number_of r)) h.arena h.table h.bits h.roots
refused_by r h x d {m} e = refused m h x d e (number_some r)

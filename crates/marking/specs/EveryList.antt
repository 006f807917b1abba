-- WHAT IS PROVED of the theory: after a setup and any list of calls, further setups among them, the three claims hold of the heap that the list has left
-- and of the ledger that its events have fed. To be read before it: Claim, Survivors and Advance.
use Rattle.std.specs.Prelude.{List}
use Rattle.marking.specs.WordHeap.{WordHeap}
use Rattle.marking.specs.Event.{Event}
use Rattle.marking.specs.Event
use Rattle.marking.specs.Ledger.{feed_all, empty}
use Rattle.marking.specs.Trace.{Step, Steps}
use Rattle.marking.specs.Claim.{Correct, freed_since}
use Rattle.marking.specs.Survivors.{Exact}
use Rattle.marking.specs.Advance.{Advancing}

pub record Claims {H₁ H₂ : WordHeap} {es : List Event} (ss : Steps H₁ es H₂) : Type 0 where
  pub correct : Correct H₂ (feed_all es empty) (λ x. freed_since x 0 empty ss)
  pub exact : Exact H₂ (feed_all es empty)
  pub advancing : Advancing H₂ (feed_all es empty)

abbrev pub EveryList : Type 0
EveryList = (H₀ H₁ H₂ : WordHeap) (es : List Event) → Step H₀ Event.setup H₁ → (ss : Steps H₁ es H₂) → Claims ss

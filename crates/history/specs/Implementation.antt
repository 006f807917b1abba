-- What demand 3 says of a program. A program's calls meet their contracts (`Meets` of crate model): each answers what the definitions answer and
-- leaves the buffers that they leave. So a list of its calls, each on the buffers as the last one left them, is a list of the definitions' calls, and
-- the claims about such lists hold of it (proofs/Implementations.antt).
use Rattle.std.specs.Prelude.{ℕ, List, [], ◌∷◌, ◌≡◌}
use Rattle.model.specs.Memory.{Heap}
use Rattle.model.specs.Answers.{Meets}
use Rattle.model.specs.Calls.{Request, step, answers, after}
use Rattle.model.specs.declared.Answer.{Answer}
use Rattle.history.specs.Ledger.{on_pages}

-- a program was asked rs on the buffers of h, answered as, and left the buffers of h'; every call met its contract
pub data Ran : Heap → List Request → List Answer → Heap → Type 0 where
  nothing : (h : Heap) → Ran h [] [] h
  call : {h h₁ h₂ : Heap} {r : Request} {rs : List Request} {a : Answer} {as' : List Answer} →
      Meets (step h r) a h₁.arena h₁.table h₁.bits h₁.roots → Ran h₁ rs as' h₂ → Ran h (r ∷ rs) (a ∷ as') h₂

-- it is a list of the definitions' calls: the answers are theirs, and so are the buffers
pub record Same (h : Heap) (rs : List Request) (as' : List Answer) (h' : Heap) : Type 0 where
  pub answers : as' ≡ answers h rs
  pub buffers : (P : ℕ) → on_pages P h' ≡ on_pages P (after h rs)

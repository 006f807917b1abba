-- A program whose calls meet their contracts runs as the definitions do, so demand 3 holds of it.
use Prim.Native.Nat.{ℕ}
use mathlib.Core.List.{List, [], ◌∷◌}
use mathlib.Core.Path.{◌≡◌, refl, ap, ◌∙◌}
use lib.Dec.{T}
use Rattle.model.specs.Memory.{Heap, lent}
use Rattle.model.specs.Answers.{Meets, Outcome, accepted}
use Rattle.model.specs.Calls.{Request, step, answers, after}
use Rattle.model.specs.declared.Answer.{Answer}
use Rattle.history.specs.Ledger.{on_pages}
use Rattle.history.specs.Demand.{setup_of, Demand}
use Rattle.history.specs.Beyond.{Beyond}
use Rattle.history.specs.Implementation.{Ran, nothing, call, Same}
use Rattle.history.proofs.Theorem.{demand_3}

-- what a list of calls does depends on the buffers alone
module _ (h g : Heap) (e : on_pages 0 h ≡ on_pages 0 g) where
  pub same_pages : (P : ℕ) → on_pages P h ≡ on_pages P g
  same_pages P = ap (on_pages P) e

  pub same_step : (r : Request) → step h r ≡ step g r
  same_step r = ap (λ (x : Heap). step x r) e

  pub same_answers : (rs : List Request) → answers h rs ≡ answers g rs
  unfolding answers
  same_answers [] = refl
  same_answers (r ∷ rs) = ap (λ (o : Outcome). o.answer ∷ answers o.heap rs) (same_step r)

  pub same_after : (rs : List Request) (P : ℕ) → on_pages P (after h rs) ≡ on_pages P (after g rs)
  unfolding after
  same_after [] P = same_pages P
  same_after (r ∷ rs) P = ap (λ (o : Outcome). on_pages P (after o.heap rs)) (same_step r)

-- the buffers that meet an outcome are the outcome's
met : (o : Outcome) {a : Answer} (h : Heap) → Meets o a h.arena h.table h.bits h.roots → on_pages 0 h ≡ on_pages 0 o.heap
met o h M = λ i. lent 0 (M.arena i) (M.table i) (M.bits i) (M.roots i)

pub same : {h h' : Heap} {rs : List Request} {as' : List Answer} → Ran h rs as' h' → Same h rs as' h'
unfolding answers after
same (nothing h) = record { answers = refl; buffers = λ P. refl }
same (call {h} {h₁} {h₂} {r} {rs} {a} {as'} M R) =
    let S = same R in
    let e = met (step h r) h₁ M in
    record {
      answers = rw (M.answer, S.answers, same_answers h₁ (step h r).heap e rs);
      buffers = λ P. S.buffers P ∙ same_after h₁ (step h r).heap e rs P;
    }

-- DEMAND 3 of a program: after a setup that it accepted, and any list of calls, what it answered and left is what the claim speaks of
pub demand_of : (h : Heap) {h₁ h₂ : Heap} (P : ℕ) {rs : List Request} {as' : List Answer} {a : Answer} →
    Meets (step h (setup_of P)) a h₁.arena h₁.table h₁.bits h₁.roots → T (accepted a) → Ran h₁ rs as' h₂ →
    (as' ≡ answers (step h (setup_of P)).heap rs) × (on_pages P h₂ ≡ on_pages P (after (step h (setup_of P)).heap rs)) × Demand P
    (step h (setup_of P)).heap rs × Beyond P (step h (setup_of P)).heap rs
demand_of h {h₁} {h₂} P {rs} M t R =
    let S = same R in
    let g = (step h (setup_of P)).heap in
    let e = met (step h (setup_of P)) h₁ M in
    let D = demand_3 h P (rw M.answer at t) rs in
    (S.answers ∙ same_answers h₁ g e rs, S.buffers P ∙ same_after h₁ g e rs P, D.0, D.1)

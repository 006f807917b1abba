-- A list of requests on buffers that pass the audit and agree with a ledger: its stages are the theory's steps, and the audit holds at its end.
use Prim.Native.Nat.{ℕ}
use mathlib.Core.List.{List, [], ◌∷◌, ◌++◌, append_assoc, append-nil}
use mathlib.Core.Path.{◌≡◌}
use Rattle.marking.specs.Ledger.{Ledger}
use Rattle.marking.proofs.Freed.{Reached, reached}
use Rattle.model.specs.Memory.{Heap}
use Rattle.model.specs.Calls.{Request, step, after}
use Rattle.model.specs.Facts.{Audited}
use Rattle.history.specs.Ledger.{on_pages}
use Rattle.history.specs.Demand.{stages_of, stages}
use Rattle.history.proofs.View.{view}
use Rattle.history.proofs.Stages.{Along, none, more, join, steps}
use Rattle.history.proofs.Runs.{Made, made}

-- a call, by its stages
along : {P : ℕ} {h : Heap} {r : Request} → Made P h r → Along P h (stages_of h r) (step h r).heap
along m = join m.sweeps (more m.happens.step none)

pub record Course (P : ℕ) (h : Heap) (rs : List Request) : Type 0 where
  pub along : Along P h (stages h rs) (after h rs)
  pub audited : Audited (on_pages P (after h rs))

pub course : (P : ℕ) (h : Heap) {L : Ledger} {n : ℕ → ℕ} → Audited (on_pages P h) → Reached (view (on_pages P h)) L n → (rs : List Request) → Course P h rs
unfolding stages after
course P h F N [] = record { along = none; audited = F }
course P h F N (r ∷ rs) =
    let m = made P h F N.agrees r in
    let C = course P (step h r).heap m.audited (reached (steps (along m)) N) rs in
    record { along = join (along m) C.along; audited = C.audited }

-- one call more
pub stages_last : (h : Heap) (rs : List Request) (r : Request) → stages h (rs ++ (r ∷ [])) ≡ stages h rs ++ stages_of (after h rs) r
unfolding stages after
stages_last h [] r = append-nil (stages_of h r)
stages_last h (q ∷ rs) r = rw (stages_last (step h q).heap rs r, append_assoc (stages_of h q) (stages (step h q).heap rs) (stages_of (after (step h q).heap rs) r))

-- What a predicate reaches through fields, and the one lemma on how that changes when the fields change.
use mathlib.Core.Path.{◌≡◌, subst}
use mathlib.Core.Logic.{◌⊎◌, inl, inr}
use Prim.Native.Nat.{ℕ}

-- the least predicate that holds where P holds and goes along the fields
pub data Closure (field : ℕ → ℕ → ℕ) (P : ℕ → Type 0) : ℕ → Type 0 where
  here : {x : ℕ} → P x → Closure field P x
  next : {x : ℕ} → Closure field P x → (f : ℕ) → Closure field P (field x f)

pub closure_in : {field : ℕ → ℕ → ℕ} {P : ℕ → Type 0} (Q : ℕ → Type 0) → ((x : ℕ) → P x → Q x) → ((x f : ℕ) → Q x → Q (field x f)) →
    {x : ℕ} → Closure field P x → Q x
closure_in Q i c (here {x} p) = i x p
closure_in Q i c (next {x} r f) = c x f (closure_in Q i c r)

-- THE TRANSITION LEMMA: P only grows, and an edge that goes away had its target in the new P
pub closure_step : {field fld' : ℕ → ℕ → ℕ} {P Q : ℕ → Type 0} → ((x : ℕ) → P x → Q x) →
    ((x f : ℕ) → (fld' x f ≡ field x f) ⊎ Q (field x f)) → {x : ℕ} → Closure field P x → Closure fld' Q x
closure_step i e (here {x} p) = here (i x p)
closure_step {field} {fld'} {P} {Q} i e (next {x} r f) = go (closure_step i e r) (e x f)
  where
    go : Closure fld' Q x → ((fld' x f ≡ field x f) ⊎ Q (field x f)) → Closure fld' Q (field x f)
    go h (inl p) = subst (λ (n : ℕ). Closure fld' Q n) p (next h f)
    go h (inr q) = here q

-- Named lists of laws for `simp`: a chain of tests becomes a product of facts in one step, and a product of facts a chain of tests.
use mathlib.Core.Bool.{Bool, true, false, not, cond, ◌||◌}
use mathlib.Core.Logic.{◌↔◌}
use lib.Dec.{T}
use Rattle.model.proofs.Tests.{and_iff, nor_iff, not_not_iff, implies_iff, eqb_iff, neqb_iff, ltb_iff, nltb_iff, leb_iff, nleb_iff}
use Rattle.model.proofs.Bounded.{all_iff}

-- a choice between two tests
pub cond_iff : (b x y : Bool) → T (cond b x y) ↔ ((T b → T x) × (T (not b) → T y))
cond_iff true x y = (λ t. (λ _. t, λ z. absurd z), λ p. p.0 tt)
cond_iff false x y = (λ t. (λ z. absurd z, λ _. t), λ p. p.1 tt)

pub ruleset tests = (and_iff, nor_iff, not_not_iff, implies_iff, cond_iff, eqb_iff, neqb_iff, ltb_iff, nltb_iff, leb_iff, nleb_iff, all_iff)

-- the second holds where the first does not
pub else_iff : (a b : Bool) → T (a || b) ↔ (T (not a) → T b)
else_iff true b = (λ t z. absurd z, λ f. tt)
else_iff false b = (λ t z. t, λ f. f tt)

-- Tests as facts: `T b` says that the test b holds, and the ruleset `tests` turns a chain of tests into a product of facts and back.
use Prim.Native.Nat.{ℕ, ◌+◌, ◌≤◌, ◌<◌}
use mathlib.Core.Bool.{Bool, true, false, not, cond, ◌&&◌, ◌||◌, true≢false}
use mathlib.Core.Logic.{◌⊎◌, inl, inr, ◌≢◌, ◌↔◌}
use mathlib.Core.Path.{◌≡◌, refl, ap, sym, ◌∙◌}
use native.Mathlib.Omega.{arith}
use lib.Dec.{T, eqb, ltb, leb, eqb→eq, ltb→lt, leb→le, nltb→le, nleb→lt}
use borrow.Author.Tests.{lt-ltb, le-ltb, le-leb, lt-leb, eq-eqb, ne_eqb, eqb-true, eqb-false}
use Rattle.model.specs.Bounded.{◌implies◌}

pub is_true : (b : Bool) → b ≡ true → T b
is_true true e = tt
is_true false e = absurd (true≢false (sym e))

pub of_true : (b : Bool) → T b → b ≡ true
of_true true t = refl
of_true false t = absurd t

pub of_false : (b : Bool) → T (not b) → b ≡ false
of_false true t = absurd t
of_false false t = refl

-- a test that holds and fails
pub clash : {A : Type 0} (b : Bool) → b ≡ true → b ≡ false → A
clash b p q = absurd (true≢false (sym p ∙ q))

-- equal tests: each holds where the other does
pub same_test : (a b : Bool) → (T a → T b) → (T b → T a) → a ≡ b
same_test true true f g = refl
same_test true false f g = absurd (f tt)
same_test false true f g = absurd (g tt)
same_test false false f g = refl

-- a choice between two of the same
pub cond_same : {A : Type 0} (b : Bool) (x : A) → cond b x x ≡ x
cond_same true x = refl
cond_same false x = refl

pub and_iff : (a b : Bool) → T (a && b) ↔ (T a × T b)
and_iff true b = (λ t. (tt, t), λ p. p.1)
and_iff false b = (λ t. absurd t, λ p. absurd p.0)

pub or_iff : (a b : Bool) → T (a || b) ↔ (T a ⊎ T b)
or_iff true b = (λ t. inl tt, λ t. tt)
or_iff false b = (λ t. inr t, right)
  where
    right : (⊥ ⊎ T b) → T b
    right (inl x) = absurd x
    right (inr x) = x

-- neither holds
pub nor_iff : (a b : Bool) → T (not (a || b)) ↔ (T (not a) × T (not b))
nor_iff true b = (λ t. absurd t, λ p. p.0)
nor_iff false b = (λ t. (tt, t), λ p. p.1)

pub not_not_iff : (b : Bool) → T (not (not b)) ↔ T b
not_not_iff true = (λ t. t, λ t. t)
not_not_iff false = (λ t. t, λ t. t)

pub implies_iff : (a b : Bool) → T (a implies b) ↔ (T a → T b)
unfolding ◌implies◌
implies_iff true b = (λ t s. t, λ f. f tt)
implies_iff false b = (λ t s. absurd s, λ f. tt)

pub eqb_iff : (a b : ℕ) → T (eqb a b) ↔ (a ≡ b)
eqb_iff a b = (eqb→eq a b, λ e. is_true _ (eq-eqb a b e))

-- numbers moved by the same are equal where they were
pub eqb_shift : (a f g : ℕ) → eqb (a + f) (a + g) ≡ eqb f g
eqb_shift a f g = go (eqb f g) refl
  where
    go : (b : Bool) → eqb f g ≡ b → eqb (a + f) (a + g) ≡ b
    go true p = eq-eqb (a + f) (a + g) (omega (arith, eqb-true f g p))
    go false p = ne_eqb (a + f) (a + g) (λ q. eqb-false f g p (omega arith))

pub neqb_iff : (a b : ℕ) → T (not (eqb a b)) ↔ (a ≢ b)
neqb_iff a b = (λ t. eqb-false a b (of_false _ t), λ d. is_true _ (ap not (ne_eqb a b d)))

pub ltb_iff : (a b : ℕ) → T (ltb a b) ↔ (a < b)
ltb_iff a b = (ltb→lt a b, λ h. is_true _ (lt-ltb a b h))

pub nltb_iff : (a b : ℕ) → T (not (ltb a b)) ↔ (b ≤ a)
nltb_iff a b = (nltb→le a b, λ h. is_true _ (ap not (le-ltb a b h)))

pub leb_iff : (a b : ℕ) → T (leb a b) ↔ (a ≤ b)
leb_iff a b = (leb→le a b, λ h. is_true _ (le-leb a b h))

pub nleb_iff : (a b : ℕ) → T (not (leb a b)) ↔ (b < a)
nleb_iff a b = (nleb→lt a b, λ h. is_true _ (ap not (lt-leb a b h)))

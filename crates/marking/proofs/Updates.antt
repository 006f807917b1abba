-- What a function changed at a place gives there and elsewhere; and small facts on tests.
use mathlib.Core.Path.{◌≡◌, refl, subst}
use mathlib.Core.Bool.{Bool, true, false, not, cond, ◌&&◌, ◌||◌}
use mathlib.Core.Logic.{◌⊎◌, inl, inr, ◌≢◌}
use Prim.Native.Nat.{ℕ}
use lib.Dec.{T, eqb, eqb→eq, eqb_refl, T_not}
use Rattle.model.proofs.Tests.{is_true}
use Rattle.marking.specs.Updates.{update, update2}

pub cond_case : {X : Type 0} (P : X → Type 0) (b : Bool) (v w : X) → (T b → P v) → P w → P (cond b v w)
cond_case P true v w f g = f tt
cond_case P false v w f g = g

pub update_case : {X : Type 0} (P : X → Type 0) (h : ℕ → X) (i : ℕ) (v : X) (x : ℕ) → (x ≡ i → P v) → P (h x) → P (update h i v x)
unfolding update
update_case P h i v x f g = cond_case P (eqb x i) v (h x) (λ t. f (eqb→eq x i t)) g

cond_true : {X : Type 0} (b : Bool) (v w : X) → T b → cond b v w ≡ v
cond_true true v w t = refl
cond_true false v w t = absurd t

pub update_same : {X : Type 0} (h : ℕ → X) (i : ℕ) (v : X) → update h i v i ≡ v
unfolding update
update_same h i v = cond_true (eqb i i) v (h i) (eqb_refl i)

pub update2_case : (P : ℕ → Type 0) (h : ℕ → ℕ → ℕ) (i j v x y : ℕ) → (x ≡ i → y ≡ j → P v) → P (h x y) → P (update2 h i j v x y)
unfolding update2
update2_case P h i j v x y f g =
    update_case (λ (k : ℕ → ℕ). P (k y)) h i (update (h i) j v) x
    (λ p. update_case P (h i) j v y (f p) (subst (λ (n : ℕ). P (h n y)) p g)) g

-- a changed place: it holds the new value, or it is as before
pub update2_split : (h : ℕ → ℕ → ℕ) (i j v x y : ℕ) → ((x ≡ i) × (y ≡ j) × (update2 h i j v x y ≡ v)) ⊎ (update2 h i j v x y ≡ h x y)
update2_split h i j v x y =
    update2_case (λ (n : ℕ). ((x ≡ i) × (y ≡ j) × (n ≡ v)) ⊎ (n ≡ h x y)) h i j v x y (λ p q. inl (p, q, refl)) (inr refl)

-- tests
pub or_case : (P : Type 0) (a b : Bool) → (T a → P) → (T b → P) → T (a || b) → P
or_case P true b f g t = f tt
or_case P false b f g t = g t

pub or_left : (a b : Bool) → T a → T (a || b)
or_left true b t = tt
or_left false b t = absurd t

pub or_right : (a b : Bool) → T b → T (a || b)
or_right true b t = tt
or_right false b t = t

pub and_both : (a b : Bool) → T a → T b → T (a && b)
and_both true b s t = t
and_both false b s t = s

pub and_left : (a b : Bool) → T (a && b) → T a
and_left true b t = tt
and_left false b t = t

pub and_right : (a b : Bool) → T (a && b) → T b
and_right true b t = t
and_right false b t = absurd t

-- where the second test of two fails, both together do; and so where the first holds without it
pub and_fails : (a b : Bool) → T (not b) → T (not (a && b))
and_fails true b t = t
and_fails false b t = tt

pub and_not_fails : (a b : Bool) → T b → T (not (a && not b))
and_not_fails true true t = tt
and_not_fails true false t = absurd t
and_not_fails false b t = tt

pub test : (b : Bool) → T b ⊎ T (not b)
test true = inl tt
test false = inr tt

pub contradicts : {P : Type 0} (b : Bool) → T b → T (not b) → P
contradicts true s t = absurd t
contradicts false s t = absurd s

pub cond_on : {X : Type 0} (P : X → Type 0) (b : Bool) (v w : X) → T b → P v → P (cond b v w)
cond_on P true v w t p = p
cond_on P false v w t p = absurd t

-- a set with one more member
pub added_old : (h : ℕ → Bool) (i x : ℕ) → T (h x) → T (update h i true x)
added_old h i x t = update_case T h i true x (λ p. tt) t

pub added_new : (h : ℕ → Bool) (i : ℕ) → T (update h i true i)
added_new h i = rw (update_same h i true) tt

pub added_only : (h : ℕ → Bool) (i x : ℕ) → T (update h i true x) → (x ≡ i) ⊎ T (h x)
added_only h i x = update_case (λ (b : Bool). T b → (x ≡ i) ⊎ T (h x)) h i true x (λ p t. inl p) (λ t. inr t)

pub differ : (a b : ℕ) → T (not (eqb a b)) → a ≢ b
differ a b h e = T_not (eqb a b) h (rw e (eqb_refl b))

pub update_other : {X : Type 0} (h : ℕ → X) (i : ℕ) (v : X) (x : ℕ) → x ≢ i → update h i v x ≡ h x
update_other h i v x d = update_case (λ w. w ≡ h x) h i v x (λ p. absurd (d p)) refl

-- a change as one test
pub update_is : {X : Type 0} (h : ℕ → X) (i : ℕ) (v : X) (x : ℕ) → update h i v x ≡ cond (eqb x i) v (h x)
unfolding update
update_is h i v x = refl

pub update2_is : (h : ℕ → ℕ → ℕ) (i j v x y : ℕ) → update2 h i j v x y ≡ cond (eqb x i && eqb y j) v (h x y)
unfolding update2 update
update2_is h i j v x y = go (eqb x i) refl
  where
    go : (b : Bool) → eqb x i ≡ b → (cond b (λ (n : ℕ). cond (eqb n j) v (h i n)) (h x)) y ≡ cond (b && eqb y j) v (h x y)
    go true e = rw (eqb→eq x i (is_true (eqb x i) e))
    go false e = refl

pub cond_map : {X Y : Type 0} (F : X → Y) (b : Bool) (v w : X) → cond b (F v) (F w) ≡ F (cond b v w)
cond_map F true v w = refl
cond_map F false v w = refl

-- a table's change, seen through a function
pub update2_map : (F : ℕ → ℕ) (k h : ℕ → ℕ → ℕ) (i j v x y : ℕ) → k x y ≡ F (h x y) → update2 k i j (F v) x y ≡ F (update2 h i j v x y)
update2_map F k h i j v x y e = rw (update2_is k i j (F v) x y, update2_is h i j v x y, e) (cond_map F (eqb x i && eqb y j) v (h x y))

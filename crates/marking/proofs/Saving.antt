-- What the saved records are on the abstract heap. In the mark phase they hold every marked record, are closed under the fields, and lie in
-- what the marked nodes reach; each kind of call keeps that, with what it saves.
use mathlib.Core.Path.{◌≡◌, refl, ap, sym, subst}
use mathlib.Core.Bool.{Bool, true}
use mathlib.Core.Logic.{◌⊎◌, inl, inr}
use Prim.Native.Nat.{ℕ, ◌<◌}
use lib.Dec.{T}
use Rattle.marking.specs.Updates.{update, update2}
use Rattle.model.proofs.Tests.{of_true}
use Rattle.marking.proofs.Updates.{update2_case, update2_split, added_old, added_new, added_only}
use Rattle.marking.proofs.Closure.{Closure, here, closure_step}
use Rattle.marking.proofs.Graph.{Shape, set_field}
use Rattle.marking.proofs.Colours.{Colours, Marked, shade, shade_all, shade_grows, shade_marks, shade_all_grows, shade_all_lem, shade_all_all}
use Rattle.marking.proofs.Operations.{State, store, perform}
use Rattle.marking.specs.WordHeap.{marking}

-- what the saved records K are in the mark phase
pub record Saving (K : ℕ → Type 0) (S : State) : Type 0 where
  pub marked : (x : ℕ) → 0 < x → Marked S.colours x → K x
  pub step : (x f : ℕ) → K x → 0 < S.graph.field x f → K (S.graph.field x f)
  pub within : (x : ℕ) → K x → Closure S.graph.field (Marked S.colours) x

-- K and what a call adds
abbrev pub With : (ℕ → Type 0) → (ℕ → Type 0) → ℕ → Type 0
With K A x = K x ⊎ A x

module _ {K A : ℕ → Type 0} where
  -- a state S' with more marks, in which an edge that went away had its target marked
  grow : (S S' : State) → Saving K S → ((x : ℕ) → 0 < x → Marked S'.colours x → With K A x) →
      ((x f : ℕ) → With K A x → 0 < S'.graph.field x f → With K A (S'.graph.field x f)) →
      ((x : ℕ) → Marked S.colours x → Marked S'.colours x) →
      ((x f : ℕ) → (S'.graph.field x f ≡ S.graph.field x f) ⊎ Marked S'.colours (S.graph.field x f)) →
      ((x : ℕ) → A x → Closure S.graph.field (Marked S'.colours) x) → Saving (With K A) S'
  grow S S' Z marks steps more edges inside = record { marked = marks; step = steps; within = λ x k. go x k }
    where
      go : (x : ℕ) → With K A x → Closure S'.graph.field (Marked S'.colours) x
      go x (inl k) = closure_step more edges (Z.within x k)
      go x (inr a) = closure_step (λ y m. m) edges (inside x a)

  module _ (S : State) (Z : Saving K S) (closed : (x f : ℕ) → A x → 0 < S.graph.field x f → A (S.graph.field x f)) where
    along : (x f : ℕ) → With K A x → 0 < S.graph.field x f → With K A (S.graph.field x f)
    along x f (inl k) z = inl (Z.step x f k z)
    along x f (inr a) z = inr (closed x f a z)

    -- the fields stay, and a node that is now marked was marked, or is saved
    stays : (S' : State) → S'.graph.field ≡ S.graph.field → ((x : ℕ) → 0 < x → Marked S'.colours x → With K A x) →
        ((x : ℕ) → Marked S.colours x → Marked S'.colours x) → ((x : ℕ) → A x → Closure S.graph.field (Marked S'.colours) x) → Saving (With K A) S'
    stays S' e marks more inside = grow S S' Z marks (λ x f. rw e (along x f)) more (λ x f. inl (ap (λ (h : ℕ → ℕ → ℕ). h x f) e)) inside

    -- marks and fields stay
    pub save_plain : (S' : State) → S'.graph.field ≡ S.graph.field → S'.colours.marked ≡ S.colours.marked →
        ((x : ℕ) → A x → Closure S.graph.field (Marked S.colours) x) → Saving (With K A) S'
    save_plain S' e d inside = stays S' e (λ x z t. inl (Z.marked x z (subst (λ (h : ℕ → Bool). T (h x)) d t)))
        (λ x t. subst (λ (h : ℕ → Bool). T (h x)) (sym d) t)
        (λ x a. closure_step (λ y t. subst (λ (h : ℕ → Bool). T (h y)) (sym d) t) (λ y f. inl refl) (inside x a))

    -- a list of values is shaded, and the gray bit of a node or a stack may go
    pub save_shades : (S' : State) (g : ℕ → ℕ) (n : ℕ) → S'.graph.field ≡ S.graph.field →
        S'.colours.marked ≡ (shade_all S.graph g n S.colours).marked →
        ((f : ℕ) → 0 < g f → With K A (g f)) → ((x : ℕ) → A x → Closure S.graph.field (Marked S'.colours) x) → Saving (With K A) S'
    save_shades S' g n e d roots inside = stays S' e
        (λ x z t. shade_all_all {P = λ (y : ℕ). 0 < y → With K A y} S.graph g n S.colours roots (λ y m z. inl (Z.marked y z m)) x (subst (λ (h : ℕ → Bool). T (h x)) d t) z)
        (λ x t. subst (λ (h : ℕ → Bool). T (h x)) (sym d) (shade_all_grows S.graph g n S.colours x t)) inside

    -- a record is born black
    pub save_birth : (S' : State) → Shape S.graph → S'.graph.field ≡ S.graph.field →
        S'.colours.marked ≡ update S.colours.marked S.graph.born true →
        A S.graph.born → ((x : ℕ) → A x → x ≡ S.graph.born) → Saving (With K A) S'
    save_birth S' Q e d a only = stays S' e
        (λ x z t. go x z (added_only S.colours.marked S.graph.born x (subst (λ (h : ℕ → Bool). T (h x)) d t)))
        (λ x t. subst (λ (h : ℕ → Bool). T (h x)) (sym d) (added_old S.colours.marked S.graph.born x t))
        (λ x b. here (subst (λ (h : ℕ → Bool). T (h x)) (sym d) (rw (only x b) (added_new S.colours.marked S.graph.born))))
      where
        go : (x : ℕ) → 0 < x → ((x ≡ S.graph.born) ⊎ T (S.colours.marked x)) → With K A x
        go x z (inl i) = inr (rw i a)
        go x z (inr t) = inl (Z.marked x z t)

    -- a field changes from one shaded value to another
    pub save_store : (t x f v : ℕ) → T (marking S.phase) → (0 < S.graph.field x f → A (S.graph.field x f)) → (0 < v → A v) →
        ((y : ℕ) → A y → Closure S.graph.field (Marked (shade S.graph v (shade S.graph (S.graph.field x f) S.colours))) y) → Saving (With K A) (perform (store t x f v) S)
    unfolding perform set_field
    save_store t x f v m old new inside = rw (of_true (marking S.phase) m) (grow S S' Z
        (λ y z d. shade_all_lem {P = λ (y : ℕ). 0 < y → With K A y} S.graph v C₁ (λ z. inr (new z))
        (shade_all_lem {P = λ (y : ℕ). 0 < y → With K A y} S.graph o S.colours (λ z. inr (old z)) (λ y d z. inl (Z.marked y z d))) y d z)
        (λ y g k. update2_case (λ (n : ℕ). 0 < n → With K A n) S.graph.field x f v y g (λ _ _ z. inr (new z)) (along y g k))
        (λ y d. shade_grows S.graph v C₁ y (shade_grows S.graph o S.colours y d))
        (λ y g. edge y g (update2_split S.graph.field x f v y g))
        inside)
      where
        o : ℕ
        o = S.graph.field x f

        C₁ : Colours
        C₁ = shade S.graph o S.colours

        S' : State
        S' = record { graph = set_field x f v S.graph; colours = shade S.graph v C₁; phase = S.phase; allocated = S.allocated; kept = S.kept }

        edge : (y g : ℕ) →
            (((y ≡ x) × (g ≡ f) × (update2 S.graph.field x f v y g ≡ v)) ⊎ (update2 S.graph.field x f v y g ≡ S.graph.field y g)) →
            (update2 S.graph.field x f v y g ≡ S.graph.field y g) ⊎ Marked (shade S.graph v C₁) (S.graph.field y g)
        edge y g (inl e) = inr (rw (e.0, e.1) (shade_grows S.graph v C₁ o (shade_marks S.graph o S.colours)))
        edge y g (inr e) = inl e

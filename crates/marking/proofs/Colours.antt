-- The colours of the nodes: white (not marked), gray (marked, its fields not yet shaded), black (marked, not gray), and which
-- stacks are gray. Here are shading and the other small changes, and that each keeps the tri-colour invariant of the mark phase.
use mathlib.Core.Path.{◌≡◌, refl}
use mathlib.Core.Bool.{Bool, true, false, not, cond, ◌&&◌, ◌||◌}
use mathlib.Core.Logic.{◌⊎◌, inl, inr}
use Prim.Native.Nat.{ℕ, zero, suc, ◌<◌}
use native.Mathlib.Omega.{arith}
use lib.Dec.{T, eqb, ltb, eqb→eq, eqb_refl, nltb→le}
use Rattle.marking.specs.Updates.{update, update2}
use Rattle.model.proofs.Tests.{is_true}
use Rattle.marking.proofs.Updates.{update_case, update2_case, update2_split, or_case, or_left, or_right, and_both, and_left, test, contradicts, added_old, added_new, added_only, differ}
use Rattle.marking.proofs.Closure.{Closure, here, closure_step}
use Rattle.marking.proofs.Graph.{Graph, Shape, set_slot, set_field, empty_stack, birth}

-- which nodes are marked and gray, and which stacks are gray. Node 0 is always marked, and gray while the globals are
pub record Colours : Type 0 where
  pub marked : ℕ → Bool
  pub gray : ℕ → Bool
  pub gray_stack : ℕ → Bool

abbrev pub has_pointers : Graph → ℕ → Bool
has_pointers G x = ltb 0 (G.pointers x)

abbrev pub Marked : Colours → ℕ → Type 0
Marked C x = T (C.marked x)

-- THE TRI-COLOUR INVARIANT, of the mark phase: marked nodes are kept; a marked node is gray, or all its fields are marked; and each slot of a
-- scanned stack lies in what the marked nodes reach. The last is the whole protection that the barrier gives
pub record TriColour (G : Graph) (kept : ℕ → Bool) (C : Colours) : Type 0 where
  pub nil : Marked C 0
  pub marked_kept : (x : ℕ) → Marked C x → T (kept x)
  pub gray_marked : (x : ℕ) → T (C.gray x) → Marked C x
  pub black : (x : ℕ) → Marked C x → T (C.gray x) ⊎ ((f : ℕ) → Marked C (G.field x f))
  pub scanned : (t i : ℕ) → T (not (C.gray_stack t)) → Closure G.field (Marked C) (G.slot t i)

-- THE SMALL CHANGES: a node is shaded, ..
unfoldable pub shade : Graph → ℕ → Colours → Colours
shade G x C = record {
  marked = λ y. C.marked y || eqb y x;
  gray = λ y. C.gray y || (eqb y x && (not (C.marked y) && has_pointers G y));
  gray_stack = C.gray_stack;
}

-- .. g 0, g 1, .. g (n - 1) are, ..
unfoldable pub shade_all : Graph → (ℕ → ℕ) → ℕ → Colours → Colours
shade_all G g zero C = C
shade_all G g (suc n) C = shade G (g n) (shade_all G g n C)

-- .. a node is gray no more, ..
unfoldable pub ungray : ℕ → Colours → Colours
ungray x C = record { marked = C.marked; gray = update C.gray x false; gray_stack = C.gray_stack }

-- .. a stack is gray or not, ..
unfoldable pub set_gray_stack : ℕ → Bool → Colours → Colours
set_gray_stack t b C = record { marked = C.marked; gray = C.gray; gray_stack = update C.gray_stack t b }

-- .. a node is marked and not gray
unfoldable pub blacken : ℕ → Colours → Colours
blacken x C = record { marked = update C.marked x true; gray = C.gray; gray_stack = C.gray_stack }

or_out : (a b : Bool) → T (a || b) → T a ⊎ T b
or_out true b t = inl tt
or_out false b t = inr t

pub shade_grows : (G : Graph) (x : ℕ) (C : Colours) (y : ℕ) → Marked C y → Marked (shade G x C) y
unfolding shade
shade_grows G x C y m = or_left (C.marked y) (eqb y x) m

pub shade_marks : (G : Graph) (x : ℕ) (C : Colours) → Marked (shade G x C) x
unfolding shade
shade_marks G x C = or_right (C.marked x) (eqb x x) (eqb_refl x)

-- each change, and those of the graph, keep the invariant
module _ {G : Graph} {kept : ℕ → Bool} where
  pub shade_keeps : Shape G → (x : ℕ) {C : Colours} → T (kept x) → TriColour G kept C → TriColour G kept (shade G x C)
  unfolding shade
  shade_keeps S x {C} k M = record {
    nil = shade_grows G x C 0 M.nil;
    marked_kept = λ y m. or_case (T (kept y)) (C.marked y) (eqb y x) (M.marked_kept y) (λ e. rw (eqb→eq y x e) k) m;
    gray_marked = λ y g. or_case (Marked (shade G x C) y) (C.gray y) _ (λ o. shade_grows G x C y (M.gray_marked y o))
        (λ a. or_right (C.marked y) (eqb y x) (and_left (eqb y x) _ a)) g;
    black = λ y m. go y (test (C.marked y)) m;
    scanned = λ t i d. closure_step (shade_grows G x C) (λ y f. inl refl) (M.scanned t i d);
  }
    where
      C' : Colours
      C' = shade G x C

      Black : ℕ → Type 0
      Black y = T (C'.gray y) ⊎ ((f : ℕ) → Marked C' (G.field y f))

      old : (y : ℕ) → (T (C.gray y) ⊎ ((f : ℕ) → Marked C (G.field y f))) → Black y
      old y (inl g) = inl (or_left (C.gray y) _ g)
      old y (inr h) = inr (λ f. shade_grows G x C (G.field y f) (h f))

      fresh : (y : ℕ) → T (not (C.marked y)) → (T (C.marked y) ⊎ T (eqb y x)) → (T (has_pointers G y) ⊎ T (not (has_pointers G y))) →
          Black y
      fresh y w (inl m) s = contradicts (C.marked y) m w
      fresh y w (inr e) (inl s) = inl (or_right (C.gray y) _ (and_both (eqb y x) _ e (and_both (not (C.marked y)) _ w s)))
      fresh y w (inr e) (inr s) = inr
          (λ f. rw (S.past_pointers y f (omega (arith, nltb→le 0 (G.pointers y) s))) (shade_grows G x C 0 M.nil))

      go : (y : ℕ) → (Marked C y ⊎ T (not (C.marked y))) → Marked C' y → Black y
      go y (inl m₀) m = old y (M.black y m₀)
      go y (inr w) m = fresh y w (or_out (C.marked y) (eqb y x) m) (test (has_pointers G y))

  pub set_field_keeps : (x f v : ℕ) {C : Colours} → Marked C (G.field x f) → Marked C v → TriColour G kept C →
      TriColour (set_field x f v G) kept C
  unfolding set_field
  set_field_keeps x f v {C} o n M = record {
    nil = M.nil;
    marked_kept = M.marked_kept;
    gray_marked = M.gray_marked;
    black = λ y m. go y (M.black y m);
    scanned = λ t i d. closure_step (λ y m. m) edge (M.scanned t i d);
  }
    where
      go : (y : ℕ) → (T (C.gray y) ⊎ ((g : ℕ) → Marked C (G.field y g))) →
          (T (C.gray y) ⊎ ((g : ℕ) → Marked C (update2 G.field x f v y g)))
      go y (inl g) = inl g
      go y (inr h) = inr (λ g. update2_case (Marked C) G.field x f v y g (λ p q. n) (h g))

      pick : (y g : ℕ) → (((y ≡ x) × (g ≡ f) × (update2 G.field x f v y g ≡ v)) ⊎ (update2 G.field x f v y g ≡ G.field y g)) →
          ((update2 G.field x f v y g ≡ G.field y g) ⊎ Marked C (G.field y g))
      pick y g (inl e) = inr (rw (e.0, e.1) o)
      pick y g (inr e) = inl e

      edge : (y g : ℕ) → ((update2 G.field x f v y g ≡ G.field y g) ⊎ Marked C (G.field y g))
      edge y g = pick y g (update2_split G.field x f v y g)

  pub set_slot_keeps : (t i v : ℕ) {C : Colours} → (T (not (C.gray_stack t)) → Closure G.field (Marked C) v) → TriColour G kept C →
      TriColour (set_slot t i v G) kept C
  unfolding set_slot
  set_slot_keeps t i v {C} s M = record {
    nil = M.nil;
    marked_kept = M.marked_kept;
    gray_marked = M.gray_marked;
    black = M.black;
    scanned = λ u j d. update2_case (Closure G.field (Marked C)) G.slot t i v u j (λ p q. s (rw p at d)) (M.scanned u j d);
  }

  pub empty_stack_keeps : (t : ℕ) (b : Bool) {C : Colours} → TriColour G kept C → TriColour (empty_stack t b G) kept C
  unfolding empty_stack
  empty_stack_keeps t b {C} M = record {
    nil = M.nil;
    marked_kept = M.marked_kept;
    gray_marked = M.gray_marked;
    black = M.black;
    scanned = λ u j d. update_case (λ (k : ℕ → ℕ). Closure G.field (Marked C) (k j)) G.slot t (λ i. 0) u (λ p. here M.nil)
        (M.scanned u j d);
  }

  pub ungray_keeps : (x : ℕ) {C : Colours} → ((f : ℕ) → Marked C (G.field x f)) → TriColour G kept C → TriColour G kept (ungray x C)
  unfolding ungray
  ungray_keeps x {C} h M = record {
    nil = M.nil;
    marked_kept = M.marked_kept;
    gray_marked = λ y. update_case (λ (b : Bool). T b → Marked C y) C.gray x false y (λ p a. absurd a) (M.gray_marked y);
    black = λ y m. update_case (λ (b : Bool). T b ⊎ ((f : ℕ) → Marked C (G.field y f))) C.gray x false y (λ p. inr (λ f. rw p (h f)))
        (M.black y m);
    scanned = M.scanned;
  }

  -- a reset_stack is scanned, or (b true) is gray again
  pub set_gray_stack_keeps : (t : ℕ) (b : Bool) {C : Colours} → (T (not b) → (i : ℕ) → Closure G.field (Marked C) (G.slot t i)) →
      TriColour G kept C → TriColour G kept (set_gray_stack t b C)
  unfolding set_gray_stack
  set_gray_stack_keeps t b {C} h M = record {
    nil = M.nil;
    marked_kept = M.marked_kept;
    gray_marked = M.gray_marked;
    black = M.black;
    scanned = λ u j. update_case (λ (b : Bool). T (not b) → Closure G.field (Marked C) (G.slot u j)) C.gray_stack t b u
        (λ p d. rw p (h d j)) (M.scanned u j);
  }

  pub birth_keeps : Shape G → (p : ℕ) {C : Colours} → TriColour G kept C →
      TriColour (birth p G) (update kept G.born true) (blacken G.born C)
  unfolding birth blacken
  birth_keeps S p {C} M = record {
    nil = added_old C.marked G.born 0 M.nil;
    marked_kept = λ y m. known y (added_only C.marked G.born y m);
    gray_marked = λ y g. added_old C.marked G.born y (M.gray_marked y g);
    black = λ y m. go y (added_only C.marked G.born y m);
    scanned = λ t i d. closure_step (added_old C.marked G.born) (λ y f. inl refl) (M.scanned t i d);
  }
    where
      known : (y : ℕ) → ((y ≡ G.born) ⊎ T (C.marked y)) → T (update kept G.born true y)
      known y (inl e) = rw e (added_new kept G.born)
      known y (inr m) = added_old kept G.born y (M.marked_kept y m)

      B : ℕ → Type 0
      B y = (f : ℕ) → T (update C.marked G.born true (G.field y f))

      old : (y : ℕ) → (T (C.gray y) ⊎ ((f : ℕ) → Marked C (G.field y f))) → T (C.gray y) ⊎ B y
      old y (inl g) = inl g
      old y (inr h) = inr (λ f. added_old C.marked G.born (G.field y f) (h f))

      go : (y : ℕ) → ((y ≡ G.born) ⊎ T (C.marked y)) → T (C.gray y) ⊎ B y
      go y (inl e) = inr
          (λ f. rw (S.past_pointers y f (rw (e, S.unborn G.born (omega arith)) (omega arith))) (added_old C.marked G.born 0 M.nil))
      go y (inr m) = old y (M.black y m)

-- many shadings
pub shade_all_grows : (G : Graph) (g : ℕ → ℕ) (n : ℕ) (C : Colours) (y : ℕ) → Marked C y → Marked (shade_all G g n C) y
unfolding shade_all
shade_all_grows G g zero C y m = m
shade_all_grows G g (suc n) C y m = shade_grows G (g n) (shade_all G g n C) y (shade_all_grows G g n C y m)

pub shade_all_marks : (G : Graph) (g : ℕ → ℕ) (n : ℕ) (C : Colours) (f : ℕ) → f < n → Marked (shade_all G g n C) (g f)
unfolding shade_all
shade_all_marks G g zero C f h = absurd (omega arith)
shade_all_marks G g (suc n) C f h = go (test (eqb f n)) (shade_all_marks G g n C f)
  where
    go : (T (eqb f n) ⊎ T (not (eqb f n))) → (f < n → Marked (shade_all G g n C) (g f)) → Marked (shade G (g n) (shade_all G g n C)) (g f)
    go (inl e) ih = rw (eqb→eq f n e) (shade_marks G (g n) (shade_all G g n C))
    go (inr e) ih = shade_grows G (g n) (shade_all G g n C) (g f) (ih (omega (arith, differ f n e)))

pub shade_all_keeps : {G : Graph} {kept : ℕ → Bool} → Shape G → (g : ℕ → ℕ) (n : ℕ) {C : Colours} → ((f : ℕ) → T (kept (g f))) →
    TriColour G kept C → TriColour G kept (shade_all G g n C)
unfolding shade_all
shade_all_keeps S g zero k M = M
shade_all_keeps S g (suc n) k M = shade_keeps S (g n) (k n) (shade_all_keeps S g n k M)

pub shade_all_gray_stack : (G : Graph) (g : ℕ → ℕ) (n : ℕ) (C : Colours) → (shade_all G g n C).gray_stack ≡ C.gray_stack
unfolding shade_all shade
shade_all_gray_stack G g zero C = refl
shade_all_gray_stack G g (suc n) C = shade_all_gray_stack G g n C

-- to clear a gray bit first and to shade then is the same as the other way round
pub shade_ungray : (G : Graph) (x y : ℕ) (C : Colours) → Marked C y → shade G x (ungray y C) ≡ ungray y (shade G x C)
unfolding shade ungray update
shade_ungray G x y C m = λ i. record { marked = λ z. C.marked z || eqb z x; gray = λ z. go z (eqb z y) refl i; gray_stack = C.gray_stack }
  where
    none : (a b c : Bool) → T b → (a && (not b && c)) ≡ false
    none true true c t = refl
    none true false c t = absurd t
    none false b c t = refl

    go : (z : ℕ) (b : Bool) → eqb z y ≡ b →
        (cond b false (C.gray z) || (eqb z x && (not (C.marked z) && has_pointers G z))) ≡ cond b false (C.gray z || (eqb z x && (not (C.marked z) && has_pointers G z)))
    go z true e = none (eqb z x) (C.marked z) (has_pointers G z) (rw (eqb→eq z y (is_true (eqb z y) e)) m)
    go z false e = refl

pub shade_all_ungray : (G : Graph) (g : ℕ → ℕ) (n y : ℕ) (C : Colours) → Marked C y →
    shade_all G g n (ungray y C) ≡ ungray y (shade_all G g n C)
unfolding shade_all
shade_all_ungray G g zero y C m = refl
shade_all_ungray G g (suc n) y C m = rw (shade_all_ungray G g n y C m)
    (shade_ungray G (g n) y (shade_all G g n C) (shade_all_grows G g n C y m))

-- what holds of the marked nodes and of those that are shaded, holds of the marked nodes then
module _ {P : ℕ → Type 0} where
  pub shade_all_lem : (G : Graph) (x : ℕ) (C : Colours) → P x → ((y : ℕ) → Marked C y → P y) → (y : ℕ) → Marked (shade G x C) y → P y
  unfolding shade
  shade_all_lem G x C p h y m = or_case (P y) (C.marked y) (eqb y x) (h y) (λ e. rw (eqb→eq y x e) p) m

  pub shade_all_all : (G : Graph) (g : ℕ → ℕ) (n : ℕ) (C : Colours) → ((f : ℕ) → P (g f)) → ((y : ℕ) → Marked C y → P y) → (y : ℕ) →
      Marked (shade_all G g n C) y → P y
  unfolding shade_all
  shade_all_all G g zero C p h y m = h y m
  shade_all_all G g (suc n) C p h y m = shade_all_lem G (g n) (shade_all G g n C) (p n) (shade_all_all G g n C p h) y m

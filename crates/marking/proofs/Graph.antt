-- Records as a graph. A node is a number: node 0 is nil, and it also stands for the globals, whose pointer fields it has; node k
-- is the k-th record born. Here are the graph, what its roots reach, its shape, the small changes that calls make in it, and
-- that each change keeps the shape and every predicate that is closed under the fields.
use mathlib.Core.Path.{◌≡◌, refl, ap}
use mathlib.Core.Bool.{Bool, not}
use mathlib.Core.Logic.{◌⊎◌, inl, inr}
use Prim.Native.Nat.{ℕ, suc, ◌≤◌, ◌<◌}
use native.Mathlib.Omega.{arith}
use lib.Dec.{T, T_not}
use Rattle.model.specs.Memory.{slot_count}
use Rattle.marking.specs.Updates.{update, update2}
use Rattle.marking.proofs.Updates.{update_case, update2_case, update_same}
use Rattle.marking.proofs.Closure.{Closure}

-- the nodes below `born` have been born; pointer fields of a node; what field f of node x holds; what slot i of stack t holds; the open stacks
pub record Graph : Type 0 where
  pub born : ℕ
  pub pointers : ℕ → ℕ
  pub field : ℕ → ℕ → ℕ
  pub slot : ℕ → ℕ → ℕ
  pub opened : ℕ → Bool

-- the roots: the globals, and what the slots hold (those of a closed stack hold nil)
pub data Root (G : Graph) : ℕ → Type 0 where
  globals : Root G 0
  in_slot : (t i : ℕ) → Root G (G.slot t i)

abbrev pub Reach : Graph → ℕ → Type 0
Reach G = Closure G.field (Root G)

-- where a graph has nothing, it has nil
pub record Shape (G : Graph) : Type 0 where
  pub past_pointers : (x f : ℕ) → G.pointers x ≤ f → G.field x f ≡ 0
  pub unborn : (x : ℕ) → G.born ≤ x → G.pointers x ≡ 0
  pub past_slots : (t i : ℕ) → slot_count ≤ i → G.slot t i ≡ 0
  pub closed_nil : (t i : ℕ) → T (not (G.opened t)) → G.slot t i ≡ 0

-- P holds of the roots, and goes along the fields
pub record Closed (G : Graph) (P : ℕ → Type 0) : Type 0 where
  pub nil : P 0
  pub root : (t i : ℕ) → P (G.slot t i)
  pub step : (x f : ℕ) → P x → P (G.field x f)

-- THE SMALL CHANGES: a slot, a field, a stack opened (b true) or closed with all slots nil, a record of p pointer fields born
unfoldable pub set_slot : ℕ → ℕ → ℕ → Graph → Graph
set_slot t i v G = record { born = G.born; pointers = G.pointers; field = G.field; slot = update2 G.slot t i v; opened = G.opened }

unfoldable pub set_field : ℕ → ℕ → ℕ → Graph → Graph
set_field x f v G = record { born = G.born; pointers = G.pointers; field = update2 G.field x f v; slot = G.slot; opened = G.opened }

unfoldable pub empty_stack : ℕ → Bool → Graph → Graph
empty_stack t b G = record { born = G.born; pointers = G.pointers; field = G.field; slot = update G.slot t (λ i. 0); opened = update G.opened t b }

unfoldable pub birth : ℕ → Graph → Graph
birth p G = record { born = suc G.born; pointers = update G.pointers G.born p; field = G.field; slot = G.slot; opened = G.opened }

pub empty_stack_nil : (G : Graph) (t : ℕ) (b : Bool) (i : ℕ) → (empty_stack t b G).slot t i ≡ 0
unfolding empty_stack
empty_stack_nil G t b i = ap (λ (k : ℕ → ℕ). k i) (update_same G.slot t (λ i. 0))

-- each keeps the shape ..
module _ {G : Graph} where
  pub shape_set_slot : (t i v : ℕ) → i < slot_count → T (G.opened t) → Shape G → Shape (set_slot t i v G)
  unfolding set_slot
  shape_set_slot t i v h o S = record {
    past_pointers = S.past_pointers;
    unborn = S.unborn;
    past_slots = λ u j w. update2_case (λ (n : ℕ). n ≡ 0) G.slot t i v u j (λ p q. absurd (omega arith)) (S.past_slots u j w);
    closed_nil = λ u j c. update2_case (λ (n : ℕ). n ≡ 0) G.slot t i v u j (λ p q. absurd (T_not (G.opened t) (rw p at c) o))
        (S.closed_nil u j c);
  }

  pub shape_set_field : (x f v : ℕ) → f < G.pointers x → Shape G → Shape (set_field x f v G)
  unfolding set_field
  shape_set_field x f v h S = record {
    past_pointers = λ y g w. update2_case (λ (n : ℕ). n ≡ 0) G.field x f v y g (λ p q. absurd (bad y g w p q)) (S.past_pointers y g w);
    unborn = S.unborn;
    past_slots = S.past_slots;
    closed_nil = S.closed_nil;
  }
    where
      bad : (y g : ℕ) → G.pointers y ≤ g → y ≡ x → g ≡ f → ⊥
      bad y g w p q = let w' : G.pointers x ≤ g = rw p at w in omega arith

  pub shape_empty_stack : (t : ℕ) (b : Bool) → Shape G → Shape (empty_stack t b G)
  unfolding empty_stack
  shape_empty_stack t b S = record {
    past_pointers = S.past_pointers;
    unborn = S.unborn;
    past_slots = λ u j w. update_case (λ (k : ℕ → ℕ). k j ≡ 0) G.slot t (λ i. 0) u (λ p. refl) (S.past_slots u j w);
    closed_nil = λ u j. update_case (λ (b : Bool). T (not b) → update G.slot t (λ i. 0) u j ≡ 0) G.opened t b u
        (λ p c. rw p (ap (λ (k : ℕ → ℕ). k j) (update_same G.slot t (λ i. 0))))
        (λ c. update_case (λ (k : ℕ → ℕ). k j ≡ 0) G.slot t (λ i. 0) u (λ p. refl) (S.closed_nil u j c));
  }

  pub shape_birth : (p : ℕ) → Shape G → Shape (birth p G)
  unfolding birth
  shape_birth p S = record {
    past_pointers = λ x f. update_case (λ (n : ℕ). n ≤ f → G.field x f ≡ 0) G.pointers G.born p x
        (λ e w. S.past_pointers x f (rw (e, S.unborn G.born (omega arith)) (omega arith))) (S.past_pointers x f);
    unborn = λ x w. update_case (λ (n : ℕ). n ≡ 0) G.pointers G.born p x (λ e. absurd (omega arith)) (S.unborn x (omega arith));
    past_slots = S.past_slots;
    closed_nil = S.closed_nil;
  }

  -- .. and each predicate that holds of the roots and goes along the fields
  module _ {P : ℕ → Type 0} where
    pub closed_set_slot : (t i v : ℕ) → P v → Closed G P → Closed (set_slot t i v G) P
    unfolding set_slot
    closed_set_slot t i v p Q = record {
      nil = Q.nil;
      root = λ u j. update2_case P G.slot t i v u j (λ _ _. p) (Q.root u j);
      step = Q.step;
    }

    pub closed_set_field : (x f v : ℕ) → P v → Closed G P → Closed (set_field x f v G) P
    unfolding set_field
    closed_set_field x f v p Q = record {
      nil = Q.nil;
      root = Q.root;
      step = λ y g q. update2_case P G.field x f v y g (λ _ _. p) (Q.step y g q);
    }

    pub closed_empty_stack : (t : ℕ) (b : Bool) → Closed G P → Closed (empty_stack t b G) P
    unfolding empty_stack
    closed_empty_stack t b Q = record {
      nil = Q.nil;
      root = λ u j. update_case (λ (k : ℕ → ℕ). P (k j)) G.slot t (λ i. 0) u (λ _. Q.nil) (Q.root u j);
      step = Q.step;
    }

    -- P' is P, or P and the record that is born
    pub closed_birth : {P' : ℕ → Type 0} (p : ℕ) → Shape G → ((x : ℕ) → P x → P' x) → ((x : ℕ) → P' x → (x ≡ G.born) ⊎ P x) → Closed G P →
        Closed (birth p G) P'
    unfolding birth
    closed_birth {P'} p S up down Q = record {
      nil = up 0 Q.nil;
      root = λ u j. up (G.slot u j) (Q.root u j);
      step = λ x f q. go x f (down x q);
    }
      where
        go : (x f : ℕ) → ((x ≡ G.born) ⊎ P x) → P' (G.field x f)
        go x f (inl e) = rw (S.past_pointers x f (rw (e, S.unborn G.born (omega arith)) (omega arith))) (up 0 Q.nil)
        go x f (inr q) = up (G.field x f) (Q.step x f q)

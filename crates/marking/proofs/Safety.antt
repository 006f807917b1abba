-- Every call keeps the invariant. In every phase what is kept holds the roots and goes along the fields, and is allocated: so what can be
-- reached is allocated. At a finish the marked records become the kept ones, and the tri-colour invariant makes them closed.
use mathlib.Core.Path.{◌≡◌, refl}
use mathlib.Core.Bool.{Bool, true, false, not}
use mathlib.Core.Logic.{◌⊎◌, inl, inr}
use mathlib.Core.List.{List, [], ◌∷◌}
use Prim.Native.Nat.{ℕ, suc, ◌≤◌, ◌<◌}
use native.Mathlib.Omega.{arith}
use lib.Dec.{T, eqb, ltb, eqb→eq, nltb→le, ltb→lt}
use Rattle.marking.specs.Updates.{update}
use Rattle.model.proofs.Tests.{of_false}
use Rattle.marking.proofs.Updates.{cond_on, added_old, added_only, added_new, test, contradicts, cond_case, differ}
use Rattle.marking.proofs.Closure.{Closure, here, next, closure_in}
use Rattle.model.specs.Memory.{slot_count}
use Rattle.marking.proofs.Graph.{Graph, Shape, Closed, Root, globals, in_slot, Reach, set_slot, set_field, empty_stack, birth, shape_set_slot, shape_set_field, shape_empty_stack, shape_birth, closed_set_slot, closed_set_field, closed_empty_stack, closed_birth, empty_stack_nil}
use Rattle.marking.proofs.Colours.{Colours, Marked, TriColour, shade, shade_all, ungray, set_gray_stack, blacken, shade_grows, shade_marks, shade_keeps, set_field_keeps, set_slot_keeps, empty_stack_keeps, ungray_keeps, set_gray_stack_keeps, birth_keeps, shade_all_grows, shade_all_marks, shade_all_keeps, shade_all_ungray}
use Rattle.marking.proofs.Operations.{State, recoloured, barrier, birth_colours, scan_colours, Held, nil, slot, graph_source, Operation, idle, setup, initial, perform_all, AllAllowed, assign, store, reset_stack, allocate, start, finish, end_cycle, scan_stack, scan_globals, mark_step, sweep_step, Allowed, perform, mark_at}
use Rattle.marking.specs.Event.{Source}
use Rattle.marking.specs.WordHeap.{Phase, off, mark, marking}

-- THE INVARIANT: kept nodes are closed and allocated, nodes that have been born are closed, allocated nodes have been born
pub record Invariant (S : State) : Type 0 where
  pub shape : Shape S.graph
  pub kept_closed : Closed S.graph (λ x. T (S.kept x))
  pub kept_allocated : (x : ℕ) → T (S.kept x) → T (S.allocated x)
  pub born_closed : Closed S.graph (λ x. x < S.graph.born)
  pub allocated_born : (x : ℕ) → T (S.allocated x) → x < S.graph.born
  pub tricolour : T (marking S.phase) → TriColour S.graph S.kept S.colours

-- a gray record is born
pub gray_born : {S : State} → Invariant S → T (marking S.phase) → (x : ℕ) → T (S.colours.gray x) → x < S.graph.born
gray_born I m x g = let C = I.tricolour m in I.allocated_born x (I.kept_allocated x (C.marked_kept x (C.gray_marked x g)))

-- what a stack holds, and what a call puts in a slot, is in each closed predicate ..
pub held_closed : {G : Graph} {t : ℕ} {P : ℕ → Type 0} → Closed G P → {x : ℕ} → Held G t x → P x
held_closed Q nil = Q.nil
held_closed {G} {t} Q (slot j) = Q.root t j

pub source_closed : {G : Graph} {P : ℕ → Type 0} → Closed G P → (t : ℕ) (v : Source) → P (graph_source G t v)
source_closed Q t Source.nil = Q.nil
source_closed Q t (Source.slot j) = Q.root t j
source_closed {G} Q t (Source.pointer j f) = Q.step (G.slot t j) f (Q.root t j)
source_closed Q t (Source.global g) = Q.step 0 g Q.nil

-- .. and, for a scanned stack, in what the marked nodes reach
source_scanned : {G : Graph} {kept : ℕ → Bool} {C : Colours} → TriColour G kept C → (t : ℕ) (v : Source) → T (not (C.gray_stack t)) →
    Closure G.field (Marked C) (graph_source G t v)
source_scanned M t Source.nil d = here M.nil
source_scanned M t (Source.slot j) d = M.scanned t j d
source_scanned M t (Source.pointer j f) d = next (M.scanned t j d) f
source_scanned M t (Source.global g) d = next (here M.nil) g

-- what each call of the collector does to the colours
stack_keeps : {G : Graph} {kept : ℕ → Bool} {C : Colours} (t : ℕ) (b : Bool) → TriColour G kept C →
    TriColour (empty_stack t b G) kept (set_gray_stack t false C)
stack_keeps {G} t b M = set_gray_stack_keeps t false (λ _ i. rw (empty_stack_nil G t b i) (here M.nil)) (empty_stack_keeps t b M)

module _ {G : Graph} {kept : ℕ → Bool} {C : Colours} (S : Shape G) (Q : Closed G (λ x. T (kept x))) (M : TriColour G kept C) where
  mark_keeps : (x : ℕ) → Marked C x → TriColour G kept (shade_all G (G.field x) (G.pointers x) (ungray x C))
  mark_keeps x m = rw (shade_all_ungray G (G.field x) (G.pointers x) x C m)
      (ungray_keeps x (λ f. all f (test (ltb f (G.pointers x)))) (shade_all_keeps S (G.field x) (G.pointers x) (λ f. Q.step x f (M.marked_kept x m)) M))
    where
      all : (f : ℕ) → (T (ltb f (G.pointers x)) ⊎ T (not (ltb f (G.pointers x)))) →
          Marked (shade_all G (G.field x) (G.pointers x) C) (G.field x f)
      all f (inl h) = shade_all_marks G (G.field x) (G.pointers x) C f (ltb→lt f (G.pointers x) h)
      all f (inr h) = rw (S.past_pointers x f (nltb→le f (G.pointers x) h)) (shade_all_grows G (G.field x) (G.pointers x) C 0 M.nil)

  -- AT FINISH: nothing is gray, so the marked nodes are closed, and hold the roots
  pub finish_closed : ((x : ℕ) → Marked C x → T (not (C.gray x))) → ((t : ℕ) → T (not (C.gray_stack t))) → Closed G (Marked C)
  finish_closed g d = record {
    nil = M.nil;
    root = λ t i. closure_in (Marked C) (λ x m. m) (λ x f m. along x f m (M.black x m)) (M.scanned t i (d t));
    step = λ x f m. along x f m (M.black x m);
  }
    where
      along : (x f : ℕ) → Marked C x → (T (C.gray x) ⊎ ((f : ℕ) → Marked C (G.field x f))) → Marked C (G.field x f)
      along x f m (inl y) = contradicts (C.gray x) y (g x m)
      along x f m (inr h) = h f

birth_opened : (G : Graph) (p t : ℕ) → T (G.opened t) → T ((birth p G).opened t)
unfolding birth
birth_opened G p t o = o

blacken_hit : (C : Colours) (x : ℕ) → Marked (blacken x C) x
unfolding blacken
blacken_hit C x = added_new C.marked x

grown : (h k : ℕ → Bool) (n : ℕ) → ((x : ℕ) → T (h x) → T (k x)) → (x : ℕ) → T (update h n true x) → T (update k n true x)
grown h k n f x t = go (added_only h n x t)
  where
    go : ((x ≡ n) ⊎ T (h x)) → T (update k n true x)
    go (inl e) = rw e (added_new k n)
    go (inr s) = added_old k n x (f x s)

last : (x n : ℕ) → x < suc n → (x ≡ n) ⊎ (x < n)
last x n h = go (test (eqb x n))
  where
    go : (T (eqb x n) ⊎ T (not (eqb x n))) → (x ≡ n) ⊎ (x < n)
    go (inl e) = inl (eqb→eq x n e)
    go (inr e) = inr (omega (arith, differ x n e))

pub is_mark : {p : Phase} → p ≡ mark → T (marking p)
is_mark e = rw e tt

pub initial_keeps : Invariant initial
initial_keeps = record {
  shape = record {
    past_pointers = λ x f h. refl;
    unborn = λ x h. later x h (test (eqb x 0));
    past_slots = λ t i h. refl;
    closed_nil = λ t i h. refl;
  };
  kept_closed = record { nil = tt; root = λ t i. tt; step = λ x f k. tt };
  kept_allocated = λ x k. k;
  born_closed = record { nil = omega arith; root = λ t i. omega arith; step = λ x f k. omega arith };
  allocated_born = λ x e. omega (arith, eqb→eq x 0 e);
  tricolour = λ m. absurd m;
}
  where
    later : (x : ℕ) → 1 ≤ x → (T (eqb x 0) ⊎ T (not (eqb x 0))) → initial.graph.pointers x ≡ 0
    later x h (inl e) = absurd (omega (arith, eqb→eq x 0 e))
    later x h (inr e) = rw (of_false (eqb x 0) e)

-- after the barrier both values are marked
barrier_old : (S : State) (o v : ℕ) → T (marking S.phase) → Marked (barrier S o v) o
barrier_old S o v m = cond_on (λ (C : Colours). Marked C o) (marking S.phase) (shade S.graph v _) S.colours m
    (shade_grows S.graph v _ o (shade_marks S.graph o S.colours))

barrier_new : (S : State) (o v : ℕ) → T (marking S.phase) → Marked (barrier S o v) v
barrier_new S o v m = cond_on (λ (C : Colours). Marked C v) (marking S.phase) (shade S.graph v _) S.colours m
    (shade_marks S.graph v _)

barrier_keeps : (S : State) → Invariant S → (o v : ℕ) → T (S.kept o) → T (S.kept v) → T (marking S.phase) →
    TriColour S.graph S.kept (barrier S o v)
barrier_keeps S I o v k l m = cond_on (λ (C : Colours). TriColour S.graph S.kept C) (marking S.phase) _ S.colours m
    (shade_keeps I.shape v l (shade_keeps I.shape o k (I.tricolour m)))

-- a record is born marked
birth_black : (S : State) → T (marking S.phase) → Marked (birth_colours S) S.graph.born
birth_black S m = cond_on (λ (C : Colours). Marked C S.graph.born) (marking S.phase) (blacken _ S.colours) S.colours m
    (blacken_hit S.colours S.graph.born)

birth_colours_keeps : (S : State) (p : ℕ) → Invariant S → T (marking S.phase) →
    TriColour (birth p S.graph) (update S.kept S.graph.born true) (birth_colours S)
birth_colours_keeps S p I m = cond_on (λ (C : Colours). TriColour (birth p S.graph) (update S.kept S.graph.born true) C)
    (marking S.phase) _ S.colours m
    (birth_keeps I.shape p (I.tricolour m))

-- a scan marks what each slot holds
scan_marks : (S : State) → Invariant S → T (marking S.phase) → (t i : ℕ) → Marked (scan_colours S t) (S.graph.slot t i)
unfolding set_gray_stack
scan_marks S I m t i = go (test (ltb i slot_count))
  where
    go : (T (ltb i slot_count) ⊎ T (not (ltb i slot_count))) → Marked (scan_colours S t) (S.graph.slot t i)
    go (inl h) = shade_all_marks S.graph (S.graph.slot t) _ S.colours i (omega (arith, ltb→lt i slot_count h))
    go (inr h) = rw (I.shape.past_slots t i (nltb→le i slot_count h))
        (shade_all_grows S.graph (S.graph.slot t) _ S.colours 0 (I.tricolour m).nil)

scan_keeps : (S : State) → Invariant S → T (marking S.phase) → (t : ℕ) → TriColour S.graph S.kept (scan_colours S t)
unfolding set_gray_stack
scan_keeps S I m t = set_gray_stack_keeps t false (λ _ i. here (scan_marks S I m t i))
    (shade_all_keeps I.shape (S.graph.slot t) _ (I.kept_closed.root t) (I.tricolour m))

-- other colours, in this phase or another
recoloured_keeps : (p : Phase) (C : Colours) (S : State) → Invariant S → (T (marking p) → TriColour S.graph S.kept C) →
    Invariant (recoloured p C S)
recoloured_keeps p C S I M = record {
  shape = I.shape;
  kept_closed = I.kept_closed;
  kept_allocated = I.kept_allocated;
  born_closed = I.born_closed;
  allocated_born = I.allocated_born;
  tricolour = M;
}

mark_at_keeps : (x : ℕ) (S : State) → (I : Invariant S) → (T (marking S.phase) → Marked S.colours x) → Invariant (mark_at x S)
unfolding mark_at
mark_at_keeps x S I d = recoloured_keeps S.phase _ S I (λ m. mark_keeps I.shape I.kept_closed (I.tricolour m) x (d m))

pub perform_keeps : (c : Operation) (S : State) → Allowed c S → Invariant S → Invariant (perform c S)
unfolding perform set_slot set_field empty_stack birth
perform_keeps idle S p I = I
perform_keeps setup S p I = initial_keeps
perform_keeps (assign t i v) S p I = record {
  shape = shape_set_slot t i _ p.0 p.1 I.shape;
  kept_closed = closed_set_slot t i _ (source_closed I.kept_closed t v) I.kept_closed;
  kept_allocated = I.kept_allocated;
  born_closed = closed_set_slot t i _ (source_closed I.born_closed t v) I.born_closed;
  allocated_born = I.allocated_born;
  tricolour = λ m. set_slot_keeps t i _ (source_scanned (I.tricolour m) t v) (I.tricolour m);
}
perform_keeps (store t x f v) S p I = record {
  shape = shape_set_field x f v p.2 I.shape;
  kept_closed = closed_set_field x f v (held_closed I.kept_closed p.1) I.kept_closed;
  kept_allocated = I.kept_allocated;
  born_closed = closed_set_field x f v (held_closed I.born_closed p.1) I.born_closed;
  allocated_born = I.allocated_born;
  tricolour = λ m. set_field_keeps x f v (barrier_old S old v m) (barrier_new S old v m)
      (barrier_keeps S I old v (I.kept_closed.step x f (held_closed I.kept_closed p.0)) (held_closed I.kept_closed p.1) m);
}
  where
    old : ℕ
    old = S.graph.field x f
perform_keeps (reset_stack t b) S p I = record {
  shape = shape_empty_stack t b I.shape;
  kept_closed = closed_empty_stack t b I.kept_closed;
  kept_allocated = I.kept_allocated;
  born_closed = closed_empty_stack t b I.born_closed;
  allocated_born = I.allocated_born;
  tricolour = λ m. stack_keeps t b (I.tricolour m);
}
perform_keeps (allocate t i n) S p I = record {
  shape = shape_set_slot t i S.graph.born p.0 (birth_opened S.graph n t p.1) (shape_birth n I.shape);
  kept_closed = closed_set_slot t i S.graph.born (added_new S.kept S.graph.born)
      (closed_birth n I.shape (added_old S.kept S.graph.born) (added_only S.kept S.graph.born) I.kept_closed);
  kept_allocated = grown S.kept S.allocated S.graph.born I.kept_allocated;
  born_closed = closed_set_slot t i S.graph.born (omega arith)
      (closed_birth {P' = λ (x : ℕ). x < suc S.graph.born} n I.shape (λ x h. omega arith) (λ x h. last x S.graph.born h) I.born_closed);
  allocated_born = λ x a. young x (added_only S.allocated S.graph.born x a);
  tricolour = λ m. set_slot_keeps t i S.graph.born (λ d. here (birth_black S m)) (birth_colours_keeps S n I m);
}
  where
    young : (x : ℕ) → ((x ≡ S.graph.born) ⊎ T (S.allocated x)) → x < suc S.graph.born
    young x (inl e) = omega arith
    young x (inr a) = omega (arith, I.allocated_born x a)
perform_keeps start S p I = recoloured_keeps mark _ S I (λ m. record {
  nil = tt;
  marked_kept = λ x e. rw (eqb→eq x 0 e) I.kept_closed.nil;
  gray_marked = λ x e. e;
  black = λ x e. inl e;
  scanned = λ t i c. rw (I.shape.closed_nil t i c) (here tt);
})
perform_keeps finish S p I = record {
  shape = I.shape;
  kept_closed = finish_closed I.shape I.kept_closed (I.tricolour (is_mark p.0)) p.1 p.2;
  born_closed = I.born_closed;
  allocated_born = I.allocated_born;
  kept_allocated = λ x m. I.kept_allocated x ((I.tricolour (is_mark p.0)).marked_kept x m);
  tricolour = λ m. absurd m;
}
perform_keeps end_cycle S p I = recoloured_keeps off _ S I (λ m. absurd m)
perform_keeps (scan_stack t) S p I = recoloured_keeps S.phase _ S I (λ m. scan_keeps S I m t)
perform_keeps scan_globals S p I = mark_at_keeps 0 S I (λ m. (I.tricolour m).nil)
perform_keeps (mark_step x) S p I = mark_at_keeps x S I (λ m. (I.tricolour m).gray_marked x p.2)
perform_keeps (sweep_step q) S p I = record {
  shape = I.shape;
  kept_closed = I.kept_closed;
  kept_allocated = λ x k. cond_case T (q x) (S.kept x) (S.allocated x) (λ _. k) (I.kept_allocated x k);
  born_closed = I.born_closed;
  allocated_born = λ x. cond_case (λ (b : Bool). T b → x < S.graph.born) (q x) (S.kept x) (S.allocated x)
      (λ _ k. I.allocated_born x (I.kept_allocated x k)) (I.allocated_born x);
  tricolour = I.tricolour;
}

pub reach_kept : (S : State) → Invariant S → {x : ℕ} → Reach S.graph x → T (S.kept x)
reach_kept S I = closure_in (λ x. T (S.kept x)) root I.kept_closed.step
  where
    root : (x : ℕ) → Root S.graph x → T (S.kept x)
    root _ globals = I.kept_closed.nil
    root _ (in_slot t i) = I.kept_closed.root t i

pub runs_keep : (cs : List Operation) (S : State) → AllAllowed cs S → Invariant S → Invariant (perform_all cs S)
unfolding perform_all AllAllowed
runs_keep [] S p I = I
runs_keep (c ∷ cs) S p I = runs_keep cs (perform c S) p.1 (perform_keeps c S p.0 I)

-- SAFETY: after every list of calls, what can be reached is allocated
pub safety : (cs : List Operation) → AllAllowed cs initial → (x : ℕ) → Reach (perform_all cs initial).graph x → T ((perform_all cs initial).allocated x)
safety cs p x r = I.kept_allocated x (reach_kept (perform_all cs initial) I r)
  where
    I : Invariant (perform_all cs initial)
    I = runs_keep cs initial p initial_keeps

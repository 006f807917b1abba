-- What one cycle frees. A record that was not reachable at a cycle's start is not marked in it, unless it is born in it, so the
-- cycle does not keep it; and a record ceases to be allocated exactly as often as it is freed. So a record that was allocated and
-- not reachable at the start is freed by exactly one sweep step of the cycle.
use mathlib.Core.Path.{◌≡◌, refl}
use mathlib.Core.Bool.{Bool, true, false, not, cond, ◌&&◌, ◌||◌}
use mathlib.Core.Logic.{◌⊎◌, inl, inr}
use mathlib.Core.List.{List, [], ◌∷◌}
use Prim.Native.Nat.{ℕ, ◌+◌, ◌≤◌, ◌<◌}
use native.Mathlib.Omega.{arith}
use lib.Dec.{T, ltb, eqb→eq, nltb→le, ltb→lt}
use Rattle.marking.specs.Updates.{update}
use Rattle.model.proofs.Tests.{of_true, of_false}
use Rattle.marking.proofs.Updates.{cond_on, added_old, added_only, added_new, test, cond_case, update_other}
use Rattle.marking.specs.Effect.{setsUp, in_cycle, lasting, as_number}
use Rattle.marking.proofs.Effects.{in_cycle_lasting}
use Rattle.marking.proofs.Closure.{here, next}
use Rattle.model.specs.Memory.{slot_count}
use Rattle.marking.proofs.Graph.{Closed, globals, in_slot, Reach, set_slot, set_field, empty_stack, birth, closed_set_slot, closed_set_field, closed_empty_stack, closed_birth}
use Rattle.marking.proofs.Colours.{Colours, Marked, ungray, set_gray_stack, blacken, shade_all_lem, shade_all_all}
use Rattle.marking.proofs.Operations.{State, Operation, idle, setup, assign, store, reset_stack, allocate, start, finish, end_cycle, scan_stack, scan_globals, mark_step, sweep_step, Allowed, perform, mark_at, initial, perform_all, AllAllowed, operation_effect, EachOperation, freed_by, freed_by_all}
use Rattle.marking.specs.WordHeap.{Phase, off, mark, sweep, marking}
use Rattle.marking.proofs.Safety.{Invariant, held_closed, source_closed, finish_closed, perform_keeps, runs_keep}

abbrev pub sweeping : Phase → Bool
sweeping off = false
sweeping mark = false
sweeping sweep = true

-- a record born before the n-th is in R, which is what the cycle may keep of the old records
abbrev pub IfOld : ℕ → (ℕ → Type 0) → ℕ → Type 0
IfOld n R x = x < n → R x

-- INSIDE A CYCLE: the old records that the roots hold, that are marked and that are kept are in R
pub record InCycle (n : ℕ) (R : ℕ → Type 0) (S : State) : Type 0 where
  pub busy : T (marking S.phase || sweeping S.phase)
  pub since : n ≤ S.graph.born
  pub closed : Closed S.graph (IfOld n R)
  pub marks : T (marking S.phase) → (x : ℕ) → Marked S.colours x → IfOld n R x
  pub keeps : T (sweeping S.phase) → (x : ℕ) → T (S.kept x) → IfOld n R x

module _ {n : ℕ} {R : ℕ → Type 0} where
  -- a record that is born now is not before the n-th
  new_ok : {b : ℕ} → n ≤ b → (h : ℕ → Bool) → ((x : ℕ) → T (h x) → IfOld n R x) → (x : ℕ) → T (update h b true x) → IfOld n R x
  new_ok {b} s h f x t = go (added_only h b x t)
    where
      go : ((x ≡ b) ⊎ T (h x)) → IfOld n R x
      go (inl e) l = absurd (omega arith)
      go (inr u) l = f x u l

  cycle_mark_at : (x : ℕ) (S : State) → InCycle n R S → (T (marking S.phase) → Marked S.colours x) → InCycle n R (mark_at x S)
  unfolding mark_at ungray
  cycle_mark_at x S K d = record {
    busy = K.busy;
    since = K.since;
    closed = K.closed;
    marks = λ m. shade_all_all S.graph (S.graph.field x) (S.graph.pointers x) (ungray x S.colours)
        (λ f. K.closed.step x f (K.marks m x (d m))) (K.marks m);
    keeps = K.keeps;
  }

  pub cycle_keeps : (c : Operation) (S : State) → T (in_cycle (operation_effect c)) → Allowed c S → Invariant S → InCycle n R S → InCycle n R (perform c S)
  unfolding perform set_slot set_field empty_stack birth set_gray_stack ungray blacken
  cycle_keeps idle S w p I K = K
  cycle_keeps setup S w p I K = absurd w
  cycle_keeps (assign t i v) S w p I K = record {
    busy = K.busy;
    since = K.since;
    closed = closed_set_slot t i _ (source_closed K.closed t v) K.closed;
    marks = K.marks;
    keeps = K.keeps;
  }
  cycle_keeps (store t x f v) S w p I K = record {
    busy = K.busy;
    since = K.since;
    closed = closed_set_field x f v (held_closed K.closed p.1) K.closed;
    marks = λ m. cond_on (λ (C : Colours). (y : ℕ) → Marked C y → IfOld n R y) (marking S.phase) _ S.colours m
        (shade_all_lem S.graph v _ (held_closed K.closed p.1) (shade_all_lem S.graph _ S.colours (K.closed.step x f (held_closed K.closed p.0)) (K.marks m)));
    keeps = K.keeps;
  }
  cycle_keeps (reset_stack t b) S w p I K = record {
    busy = K.busy;
    since = K.since;
    closed = closed_empty_stack t b K.closed;
    marks = K.marks;
    keeps = K.keeps;
  }
  cycle_keeps (allocate t i p₁) S w p I K = record {
    busy = K.busy;
    since = omega (arith, K.since);
    closed = closed_set_slot t i S.graph.born young (closed_birth p₁ I.shape (λ x r. r) (λ x r. inr r) K.closed);
    marks = λ m. cond_on (λ (C : Colours). (y : ℕ) → Marked C y → IfOld n R y) (marking S.phase) _ S.colours m
        (new_ok K.since S.colours.marked (K.marks m));
    keeps = λ s. new_ok K.since S.kept (K.keeps s);
  }
    where
      young : IfOld n R S.graph.born
      young l = absurd (omega (arith, K.since))
  cycle_keeps start S w p I K = absurd (rw p at K.busy)
  cycle_keeps finish S w p I K = record {
    busy = tt;
    since = K.since;
    closed = K.closed;
    marks = λ m. absurd m;
    keeps = λ s. K.marks (rw p.0 tt);
  }
  cycle_keeps end_cycle S w p I K = absurd w
  cycle_keeps (scan_stack t) S w p I K = record {
    busy = K.busy;
    since = K.since;
    closed = K.closed;
    marks = λ m. shade_all_all S.graph (S.graph.slot t) slot_count S.colours (K.closed.root t) (K.marks m);
    keeps = K.keeps;
  }
  cycle_keeps scan_globals S w p I K = cycle_mark_at 0 S K (λ m. (I.tricolour m).nil)
  cycle_keeps (mark_step x) S w p I K = cycle_mark_at x S K (λ m. (I.tricolour m).gray_marked x p.2)
  cycle_keeps (sweep_step q) S w p I K = record {
    busy = K.busy;
    since = K.since;
    closed = K.closed;
    marks = K.marks;
    keeps = K.keeps;
  }

  pub cycle_runs : (cs : List Operation) (S : State) → EachOperation in_cycle cs → AllAllowed cs S → Invariant S → InCycle n R S →
      InCycle n R (perform_all cs S)
  unfolding perform_all AllAllowed EachOperation
  cycle_runs [] S w p I K = K
  cycle_runs (c ∷ cs) S w p I K = cycle_runs cs (perform c S) w.1 p.1 (perform_keeps c S p.0 I) (cycle_keeps c S w.0 p.0 I K)

pub cycle_start : (S : State) → Invariant S → InCycle S.graph.born (Reach S.graph) (perform start S)
unfolding perform
cycle_start S I = record {
  busy = tt;
  since = omega arith;
  closed = record {
    nil = λ l. here globals;
    root = λ t i l. here (in_slot t i);
    step = λ x f r. go x f r (test (ltb x S.graph.born));
  };
  marks = λ m x e l. rw (eqb→eq x 0 e) (here globals);
  keeps = λ s. absurd s;
}
  where
    go : (x f : ℕ) → IfOld S.graph.born (Reach S.graph) x → (T (ltb x S.graph.born) ⊎ T (not (ltb x S.graph.born))) →
        IfOld S.graph.born (Reach S.graph) (S.graph.field x f)
    go x f r (inl h) l = next (r (ltb→lt x S.graph.born h)) f
    go x f r (inr h) l = rw (I.shape.past_pointers x f (rw (I.shape.unborn x (nltb→le x S.graph.born h)) (omega arith)))
        (here globals)

-- from a finish on the cycle keeps what is marked
pub cycle_finish : (S : State) → Invariant S → (p : Allowed finish S) → InCycle S.graph.born (Marked S.colours) (perform finish S)
unfolding perform
cycle_finish S I p = record {
  busy = tt;
  since = omega arith;
  closed = record {
    nil = λ l. F.nil;
    root = λ t i l. F.root t i;
    step = λ x f r. go x f r (test (ltb x S.graph.born));
  };
  marks = λ m. absurd m;
  keeps = λ s x m l. m;
}
  where
    F : Closed S.graph (Marked S.colours)
    F = finish_closed I.shape I.kept_closed (I.tricolour (rw p.0 tt)) p.1 p.2

    go : (x f : ℕ) → IfOld S.graph.born (Marked S.colours) x → (T (ltb x S.graph.born) ⊎ T (not (ltb x S.graph.born))) →
        IfOld S.graph.born (Marked S.colours) (S.graph.field x f)
    go x f r (inl h) l = F.step x f (r (ltb→lt x S.graph.born h))
    go x f r (inr h) l = rw (I.shape.past_pointers x f (rw (I.shape.unborn x (nltb→le x S.graph.born h)) (omega arith))) F.nil

-- THE ACCOUNT of the births and freeings from S to S', where n x is how often the record x is freed
pub record Counted (S S' : State) (n : ℕ → ℕ) : Type 0 where
  pub grows : S.graph.born ≤ S'.graph.born
  pub newborn : (x : ℕ) → S.graph.born ≤ x → x < S'.graph.born → T (S'.allocated x)
  pub account : (x : ℕ) → x < S.graph.born → as_number (S.allocated x) ≡ n x + as_number (S'.allocated x)

unchanged : (S S' : State) → S'.graph.born ≡ S.graph.born → S'.allocated ≡ S.allocated → Counted S S' (λ x. 0)
unchanged S S' b a = record { grows = omega arith; newborn = λ x h k. absurd (omega arith); account = λ x l. rw a (omega arith) }

count_one : (a b : Bool) → (T b → T a) → as_number a ≡ as_number (a && not b) + as_number b
count_one true true f = refl
count_one true false f = refl
count_one false true f = absurd (f tt)
count_one false false f = refl

-- a call is a setup, or its births and freeings are accounted for
pub data Fate (c : Operation) (S : State) : Type 0 where
  anew : operation_effect c ≡ setsUp → perform c S ≡ initial → Fate c S
  goes_on : T (lasting (operation_effect c)) → Counted S (perform c S) (λ x. freed_by x c S) → Fate c S

pub fate : (c : Operation) (S : State) → Invariant S → Fate c S
unfolding perform mark_at set_slot set_field empty_stack birth
fate idle S I = goes_on tt (unchanged S (perform idle S) refl refl)
fate setup S I = anew refl refl
fate (assign t i v) S I = goes_on tt (unchanged S (perform (assign t i v) S) refl refl)
fate (store t y f v) S I = goes_on tt (unchanged S (perform (store t y f v) S) refl refl)
fate (reset_stack t b) S I = goes_on tt (unchanged S (perform (reset_stack t b) S) refl refl)
fate (allocate t i p) S I = goes_on tt (record {
  grows = omega arith;
  newborn = λ x h k. let e : x ≡ S.graph.born = omega arith in rw e (added_new S.allocated S.graph.born);
  account = λ x l. rw (update_other S.allocated S.graph.born true x (omega arith)) (omega arith);
})
fate start S I = goes_on tt (unchanged S (perform start S) refl refl)
fate finish S I = goes_on tt (unchanged S (perform finish S) refl refl)
fate end_cycle S I = goes_on tt (record {
  grows = omega arith;
  newborn = λ x h k. absurd (omega arith);
  account = λ x l. count_one (S.allocated x) (S.allocated x) (λ a. a);
})
fate (scan_stack t) S I = goes_on tt (unchanged S (perform (scan_stack t) S) refl refl)
fate scan_globals S I = goes_on tt (unchanged S (perform scan_globals S) refl refl)
fate (mark_step y) S I = goes_on tt (unchanged S (perform (mark_step y) S) refl refl)
fate (sweep_step q) S I = goes_on tt (record {
  grows = omega arith;
  newborn = λ x h k. absurd (omega arith);
  account = λ x l. count_one (S.allocated x) (cond (q x) (S.kept x) (S.allocated x))
      (cond_case (λ (b : Bool). T b → T (S.allocated x)) (q x) (S.kept x) (S.allocated x) (λ _ k. I.kept_allocated x k) (λ a. a));
})

pub counted_by : (c : Operation) (S : State) → T (lasting (operation_effect c)) → Invariant S → Counted S (perform c S) (λ x. freed_by x c S)
counted_by c S w I = go (fate c S I)
  where
    go : Fate c S → Counted S (perform c S) (λ x. freed_by x c S)
    go (anew e _) = absurd (rw e at w)
    go (goes_on _ d) = d

accounts : (x : ℕ) (cs : List Operation) (S : State) → EachOperation in_cycle cs → AllAllowed cs S → Invariant S → x < S.graph.born →
    as_number (S.allocated x) ≡ freed_by_all x cs S + as_number ((perform_all cs S).allocated x)
unfolding perform_all AllAllowed EachOperation freed_by_all
accounts x [] S w p I l = omega arith
accounts x (c ∷ cs) S w p I l =
    let d = counted_by c S (in_cycle_lasting (operation_effect c) w.0) I in
    omega (arith, d.account x l, accounts x cs (perform c S) w.1 p.1 (perform_keeps c S p.0 I) (omega (arith, d.grows)))

-- in the sweep phase a kept record stays kept
record Swept (x : ℕ) (S : State) : Type 0 where
  phase : T (sweeping S.phase)
  kept : T (S.kept x)

swept_keeps : (x : ℕ) (c : Operation) (S : State) → T (in_cycle (operation_effect c)) → Allowed c S → Swept x S → Swept x (perform c S)
unfolding perform mark_at
swept_keeps x idle S w p P = P
swept_keeps x setup S w p P = absurd w
swept_keeps x (assign t i v) S w p P = record { phase = P.phase; kept = P.kept }
swept_keeps x (store t y f v) S w p P = record { phase = P.phase; kept = P.kept }
swept_keeps x (reset_stack t b) S w p P = record { phase = P.phase; kept = P.kept }
swept_keeps x (allocate t i n) S w p P = record { phase = P.phase; kept = added_old S.kept S.graph.born x P.kept }
swept_keeps x start S w p P = absurd (rw p at P.phase)
swept_keeps x finish S w p P = absurd (rw p.0 at P.phase)
swept_keeps x end_cycle S w p P = absurd w
swept_keeps x (scan_stack t) S w p P = record { phase = P.phase; kept = P.kept }
swept_keeps x scan_globals S w p P = record { phase = P.phase; kept = P.kept }
swept_keeps x (mark_step y) S w p P = record { phase = P.phase; kept = P.kept }
swept_keeps x (sweep_step q) S w p P = record { phase = P.phase; kept = P.kept }

swept_runs : (x : ℕ) (cs : List Operation) (S : State) → EachOperation in_cycle cs → AllAllowed cs S → Swept x S → Swept x (perform_all cs S)
unfolding perform_all AllAllowed EachOperation
swept_runs x [] S w p P = P
swept_runs x (c ∷ cs) S w p P = swept_runs x cs (perform c S) w.1 p.1 (swept_keeps x c S w.0 p.0 P)

-- COMPLETENESS, of the calls bs that end a cycle from some state S of it on, and of a record x that is allocated in S
module _ (S : State) (I : Invariant S) (bs : List Operation) (w : EachOperation in_cycle bs) (q : AllAllowed bs S) (e : Allowed end_cycle (perform_all bs S)) (x : ℕ) (a : T (S.allocated x)) where
  account : as_number (S.allocated x) ≡ freed_by_all x bs S + as_number ((perform_all bs S).allocated x)
  account = accounts x bs S w q I (I.allocated_born x a)

  -- it is freed once if the cycle does not keep it
  pub freed_one : {n : ℕ} {R : ℕ → Type 0} → InCycle n R S → x < n → ¬ (R x) → freed_by_all x bs S ≡ 1
  freed_one {n} {R} K l u = go (test ((perform_all bs S).allocated x)) account
    where
      go : (T ((perform_all bs S).allocated x) ⊎ T (not ((perform_all bs S).allocated x))) →
          as_number (S.allocated x) ≡ freed_by_all x bs S + as_number ((perform_all bs S).allocated x) → freed_by_all x bs S ≡ 1
      go (inl t) h = absurd (u ((cycle_runs bs S w q I K).keeps (rw e.0 tt) x (e.1 x t) l))
      go (inr t) h = let k = rw (of_true (S.allocated x) a, of_false ((perform_all bs S).allocated x) t) at h in omega arith

  -- and not at all if it is kept in the sweep phase
  pub freed_none : T (sweeping S.phase) → T (S.kept x) → freed_by_all x bs S ≡ 0
  freed_none s k =
      let t = (runs_keep bs S q I).kept_allocated x (swept_runs x bs S w q (record { phase = s; kept = k })).kept in
      let h = rw (of_true (S.allocated x) a, of_true ((perform_all bs S).allocated x) t) at account in omega arith

start_same : (S : State) (x : ℕ) → (perform start S).allocated x ≡ S.allocated x
unfolding perform
start_same S x = refl

pub start_born : (S : State) → (perform start S).graph.born ≡ S.graph.born
unfolding perform
start_born S = refl

-- from a start: what was allocated and not reachable then is freed once
pub freed_once : (S : State) → Invariant S → (bs : List Operation) → EachOperation in_cycle bs → Allowed start S → AllAllowed bs (perform start S) →
    Allowed end_cycle (perform_all bs (perform start S)) →
    (x : ℕ) → x < S.graph.born → T (S.allocated x) → ¬ (Reach S.graph x) → freed_by_all x bs (perform start S) ≡ 1
freed_once S I bs w s q e x l a u = freed_one (perform start S) (perform_keeps start S s I) bs w q e x (rw (start_same S x) a) (cycle_start S I) l u

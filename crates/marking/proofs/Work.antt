-- No cycle has more mark steps that do work than there are records allocated at its finish: in the mark phase a black record stays black,
-- and a mark step that does work turns a gray record black.
use mathlib.Core.Path.{◌≡◌, refl}
use mathlib.Core.Bool.{Bool, true, false, not, ◌&&◌, ◌||◌}
use mathlib.Core.Logic.{◌⊎◌, inl, inr}
use mathlib.Core.List.{List, [], ◌∷◌}
use Prim.Native.Nat.{ℕ, zero, suc, ◌+◌, ◌≤◌, ◌<◌}
use native.Mathlib.Omega.{arith}
use lib.Dec.{T, eqb}
use Rattle.marking.specs.Updates.{update}
use Rattle.marking.proofs.Updates.{update_case, update_same, cond_on, and_both, and_left, and_right, added_old, and_not_fails}
use Rattle.marking.specs.Effect.{in_marking, work}
use Rattle.marking.proofs.Effects.{in_marking_lasting}
use Rattle.model.specs.Memory.{slot_count}
use Rattle.marking.proofs.Graph.{Graph}
use Rattle.marking.proofs.Colours.{Colours, Marked, has_pointers, shade, shade_all, ungray, set_gray_stack, blacken}
use Rattle.marking.proofs.Operations.{State, Operation, idle, setup, assign, store, reset_stack, allocate, start, finish, end_cycle, scan_stack, scan_globals, mark_step, sweep_step, Allowed, perform, mark_at, perform_all, AllAllowed, operation_effect, EachOperation}
use Rattle.marking.specs.WordHeap.{marking}
use Rattle.marking.proofs.Safety.{Invariant, perform_keeps, runs_keep, gray_born}
use Rattle.marking.proofs.Cycle.{counted_by}
use Rattle.marking.specs.Count.{some, count}
use Rattle.marking.proofs.Count.{count_le, count_lt, below_more}

abbrev pub black : Colours → ℕ → Bool
black C x = C.marked x && not (C.gray x)

shade_black : (G : Graph) (x : ℕ) (C : Colours) (y : ℕ) → T (black C y) → T (black (shade G x C) y)
unfolding shade
shade_black G x C y = go (C.marked y) (C.gray y) (eqb y x) (has_pointers G y)
  where
    go : (m g e s : Bool) → T (m && not g) → T ((m || e) && not (g || (e && (not m && s))))
    go true true e s t = absurd t
    go true false true s t = tt
    go true false false s t = tt
    go false g e s t = absurd t

shade_all_black : (G : Graph) (g : ℕ → ℕ) (n : ℕ) (C : Colours) (y : ℕ) → T (black C y) → T (black (shade_all G g n C) y)
unfolding shade_all
shade_all_black G g zero C y t = t
shade_all_black G g (suc n) C y t = shade_black G (g n) (shade_all G g n C) y (shade_all_black G g n C y t)

ungray_black : (x : ℕ) (C : Colours) (y : ℕ) → T (black C y) → T (black (ungray x C) y)
unfolding ungray
ungray_black x C y t = update_case (λ (b : Bool). T (C.marked y && not b)) C.gray x false y
    (λ p. and_both (C.marked y) true (and_left (C.marked y) _ t) tt) t

ungrayed : (x : ℕ) (C : Colours) → Marked C x → T (black (ungray x C) x)
unfolding ungray
ungrayed x C d = rw (update_same C.gray x false) (and_both (C.marked x) true d tt)

blacken_black : (x : ℕ) (C : Colours) (y : ℕ) → T (black C y) → T (black (blacken x C) y)
unfolding blacken
blacken_black x C y t = and_both (update C.marked x true y) _ (added_old C.marked x y (and_left (C.marked y) _ t))
    (and_right (C.marked y) _ t)

mark_at_black : (x : ℕ) (S : State) (y : ℕ) → T (black S.colours y) → T (black (mark_at x S).colours y)
unfolding mark_at
mark_at_black x S y t = shade_all_black S.graph (S.graph.field x) (S.graph.pointers x) (ungray x S.colours) y
    (ungray_black x S.colours y t)

mark_at_phase : (x : ℕ) (S : State) → (mark_at x S).phase ≡ S.phase
unfolding mark_at
mark_at_phase x S = refl

-- a node that is marked at is black then
pub marked_black : (x : ℕ) (S : State) → Marked S.colours x → T (black (mark_at x S).colours x)
unfolding mark_at
marked_black x S m = shade_all_black S.graph (S.graph.field x) (S.graph.pointers x) (ungray x S.colours) x
    (ungrayed x S.colours m)

-- a gray record turns black
abbrev pub Blackens : Operation → State → Type 0
Blackens c S = (x : ℕ) × (0 < x) × T (S.colours.gray x) × T (black (perform c S).colours x)

-- what a call between a start and its finish does to the colours
pub record Darkens (c : Operation) (S : State) : Type 0 where
  pub phase : T (marking (perform c S).phase)
  pub black : (y : ℕ) → T (black S.colours y) → T (black (perform c S).colours y)
  pub takes : (work (operation_effect c) ≡ 0) ⊎ ((work (operation_effect c) ≡ 1) × Blackens c S)

pub darkens : (c : Operation) (S : State) → T (in_marking (operation_effect c)) → Allowed c S → Invariant S → T (marking S.phase) → Darkens c S
unfolding perform set_gray_stack
darkens idle S w p I m = record { phase = m; black = λ y t. t; takes = inl refl }
darkens setup S w p I m = absurd w
darkens (assign u i v) S w p I m = record { phase = m; black = λ y t. t; takes = inl refl }
darkens (store u x f v) S w p I m = record {
  phase = m;
  black = λ y t. cond_on (λ (C : Colours). T (black C y)) (marking S.phase) _ S.colours m
      (shade_black S.graph v (shade S.graph (S.graph.field x f) S.colours) y (shade_black S.graph (S.graph.field x f) S.colours y t));
  takes = inl refl;
}
darkens (reset_stack u b) S w p I m = record { phase = m; black = λ y t. t; takes = inl refl }
darkens (allocate u i n) S w p I m = record {
  phase = m;
  black = λ y t. cond_on (λ (C : Colours). T (black C y)) (marking S.phase) _ S.colours m
      (blacken_black S.graph.born S.colours y t);
  takes = inl refl;
}
darkens start S w p I m = absurd w
darkens finish S w p I m = absurd w
darkens end_cycle S w p I m = absurd w
darkens (scan_stack u) S w p I m = record { phase = m; black = shade_all_black S.graph (S.graph.slot u) slot_count S.colours; takes = inl refl }
darkens scan_globals S w p I m = record { phase = rw (mark_at_phase 0 S) m; black = mark_at_black 0 S; takes = inl refl }
darkens (mark_step x) S w p I m = record {
  phase = rw (mark_at_phase x S) m;
  black = mark_at_black x S;
  takes = inr (refl, (x, p.1, p.2, marked_black x S ((I.tricolour m).gray_marked x p.2)));
}
darkens (sweep_step q) S w p I m = absurd w

-- the black records that have been born
abbrev blacks : State → ℕ
blacks S = count (black S.colours) S.graph.born

darker : (c : Operation) (S : State) → T (in_marking (operation_effect c)) → Allowed c S → Invariant S → T (marking S.phase) →
    blacks S + work (operation_effect c) ≤ blacks (perform c S)
darker c S w p I m = go (darkens c S w p I m) (darkens c S w p I m).takes
  where
    grows : S.graph.born ≤ (perform c S).graph.born
    grows = (counted_by c S (in_marking_lasting (operation_effect c) w) I).grows

    go : Darkens c S → ((work (operation_effect c) ≡ 0) ⊎ ((work (operation_effect c) ≡ 1) × Blackens c S)) →
        blacks S + work (operation_effect c) ≤ blacks (perform c S)
    go D (inl e) = omega (
      arith,
      count_le (black S.colours) (black (perform c S).colours) S.graph.born (λ x _ _. D.black x),
      below_more (some (black (perform c S).colours)) S.graph.born (perform c S).graph.born grows,
    )
    go D (inr r) = omega (
      arith,
      count_lt (black S.colours) (black (perform c S).colours) S.graph.born r.1.0 r.1.1 (gray_born I m r.1.0 r.1.2) (not_yet r.1.0 r.1.2) r.1.3 (λ x _ _. D.black x),
      below_more (some (black (perform c S).colours)) S.graph.born (perform c S).graph.born grows,
    )
      where
        not_yet : (x : ℕ) → T (S.colours.gray x) → T (not (black S.colours x))
        not_yet x g = and_not_fails (S.colours.marked x) (S.colours.gray x) g

unfoldable pub works : List Operation → ℕ
works [] = 0
works (c ∷ cs) = work (operation_effect c) + works cs

all_darker : (cs : List Operation) (S : State) → EachOperation in_marking cs → AllAllowed cs S → Invariant S → T (marking S.phase) →
    (blacks S + works cs ≤ blacks (perform_all cs S)) × T (marking (perform_all cs S).phase)
unfolding works EachOperation perform_all AllAllowed
all_darker [] S w p I m = (omega arith, m)
all_darker (c ∷ cs) S w p I m =
    let r = all_darker cs (perform c S) w.1 p.1 (perform_keeps c S p.0 I) (darkens c S w.0 p.0 I m).phase in
    (omega (arith, darker c S w.0 p.0 I m, r.0), r.1)

-- THE BOUND, of the calls from a start up to the finish
pub work_bounded : (cs : List Operation) (S : State) → EachOperation in_marking cs → AllAllowed cs S → Invariant S → T (marking S.phase) →
    works cs ≤ count (perform_all cs S).allocated (perform_all cs S).graph.born
work_bounded cs S w p I m = omega (
  arith,
  r.0,
  count_le (black (perform_all cs S).colours) (perform_all cs S).allocated (perform_all cs S).graph.born
      (λ x _ _ b. J.kept_allocated x ((J.tricolour r.1).marked_kept x (and_left ((perform_all cs S).colours.marked x) _ b))),
)
  where
    r : (blacks S + works cs ≤ blacks (perform_all cs S)) × T (marking (perform_all cs S).phase)
    r = all_darker cs S w p I m

    J : Invariant (perform_all cs S)
    J = runs_keep cs S p I

-- Every cycle can be brought to its end. In the mark phase each scan of a gray stack, scan of the gray globals and mark step lowers a measure:
-- the gray stacks, the gray globals, and the allocated records that are not black. Where finish may not be called, one of them may be. In the
-- sweep phase a sweep step lowers the number of allocated records that are not kept, if it meets one.
use mathlib.Core.Path.{◌≡◌, refl, ap, ◌∙◌}
use mathlib.Core.Bool.{Bool, true, false, not, cond, ◌&&◌, ◌||◌}
use mathlib.Core.Logic.{◌⊎◌, inl, inr}
use mathlib.Core.List.{List, [], ◌∷◌}
use Prim.Native.Nat.{ℕ, zero, suc, ◌+◌, ◌≤◌, ◌<◌}
use native.Mathlib.Omega.{arith}
use lib.ListN.{length}
use lib.Dec.{T, eqb, eqb→eq}
use Rattle.marking.specs.Updates.{update}
use Rattle.model.proofs.Tests.{of_true}
use Rattle.marking.proofs.Updates.{update_same, update_other, update_case, test, differ, and_both, and_left, and_not_fails}
use Rattle.marking.specs.Effect.{as_number}
use Rattle.model.specs.Memory.{slot_count}
use Rattle.marking.proofs.Graph.{Graph}
use Rattle.marking.proofs.Colours.{Colours, Marked, has_pointers, shade, shade_all, ungray, set_gray_stack, shade_all_grows, shade_all_gray_stack}
use Rattle.marking.proofs.Operations.{State, Operation, finish, end_cycle, scan_stack, scan_globals, mark_step, sweep_step, Allowed, perform, mark_at, perform_all, AllAllowed}
use Rattle.marking.specs.WordHeap.{mark, sweep, marking}
use Rattle.marking.proofs.Safety.{Invariant, perform_keeps, gray_born}
use Rattle.model.specs.Bounded.{count_below}
use Rattle.model.proofs.Bounded
use Rattle.marking.specs.Count.{count}
use Rattle.marking.proofs.Count.{count_le, count_lt, below_lt, find}
use Rattle.marking.proofs.Work.{black, darkens, marked_black}

-- what marking has still to do, where no stack from n on is gray
abbrev pub whites : State → ℕ
whites S = count (λ x. S.allocated x && not (black S.colours x)) S.graph.born

abbrev pub left : ℕ → State → ℕ
left n S = count_below n S.colours.gray_stack + as_number (S.colours.gray 0) + whites S

pub left_bound : (n : ℕ) (S : State) → left n S ≤ n + 1 + count S.allocated S.graph.born
left_bound n S = omega (
  arith,
  Bounded.count_bound n S.colours.gray_stack,
  one (S.colours.gray 0),
  count_le (λ x. S.allocated x && not (black S.colours x)) S.allocated S.graph.born (λ x _ _ t. and_left (S.allocated x) _ t),
)
  where
    one : (b : Bool) → as_number b ≤ 1
    one true = omega arith
    one false = omega arith

-- shading does not make the globals gray
shade_nil : (G : Graph) (x : ℕ) (C : Colours) → Marked C 0 → (shade G x C).gray 0 ≡ C.gray 0
unfolding shade
shade_nil G x C m = go (C.gray 0) (eqb 0 x) (C.marked 0) (has_pointers G 0) m
  where
    go : (g e m s : Bool) → T m → (g || (e && (not m && s))) ≡ g
    go true e m s t = refl
    go false true true s t = refl
    go false true false s t = absurd t
    go false false m s t = refl

shade_all_nil : (G : Graph) (g : ℕ → ℕ) (n : ℕ) (C : Colours) → Marked C 0 → (shade_all G g n C).gray 0 ≡ C.gray 0
unfolding shade_all
shade_all_nil G g zero C m = refl
shade_all_nil G g (suc n) C m = shade_nil G (g n) (shade_all G g n C) (shade_all_grows G g n C 0 m) ∙ shade_all_nil G g n C m

not_both : (a b c : Bool) → (T b → T c) → T (a && not c) → T (a && not b)
not_both true true true f t = t
not_both true true false f t = absurd (f tt)
not_both true false c f t = tt
not_both false b c f t = t

-- a call that keeps what is allocated and born, and black records black
whites_le : (S S' : State) → S'.allocated ≡ S.allocated → S'.graph.born ≡ S.graph.born →
    ((y : ℕ) → T (black S.colours y) → T (black S'.colours y)) → whites S' ≤ whites S
whites_le S S' a b h = rw (a, b)
    (count_le (λ x. S.allocated x && not (black S'.colours x)) (λ x. S.allocated x && not (black S.colours x)) S.graph.born
    (λ x _ _. not_both (S.allocated x) (black S.colours x) (black S'.colours x) (h x)))

mark_at_allocated : (x : ℕ) (S : State) → (mark_at x S).allocated ≡ S.allocated
unfolding mark_at
mark_at_allocated x S = refl

mark_at_born : (x : ℕ) (S : State) → (mark_at x S).graph.born ≡ S.graph.born
unfolding mark_at
mark_at_born x S = refl

module _ (S : State) (I : Invariant S) (p : S.phase ≡ mark) where
  m : T (marking S.phase)
  m = rw p tt

  -- a scan of a gray stack
  pub scan_falls : (n t : ℕ) → t < n → T (S.colours.gray_stack t) → left n (perform (scan_stack t) S) < left n S
  unfolding perform set_gray_stack
  scan_falls n t h g = omega
      (arith, stacks, ap as_number globals, whites_le S (perform (scan_stack t) S) refl refl (darkens (scan_stack t) S tt p I m).black)
    where
      globals : (perform (scan_stack t) S).colours.gray 0 ≡ S.colours.gray 0
      globals = shade_all_nil S.graph (S.graph.slot t) slot_count S.colours (I.tricolour m).nil

      stacks : count_below n (perform (scan_stack t) S).colours.gray_stack < count_below n S.colours.gray_stack
      stacks = rw (shade_all_gray_stack S.graph (S.graph.slot t) slot_count S.colours)
          (below_lt (update S.colours.gray_stack t false) S.colours.gray_stack n t h (rw (update_same S.colours.gray_stack t false) tt) g
          (λ u k. update_case (λ (b : Bool). T b → T (S.colours.gray_stack u)) S.colours.gray_stack t false u (λ _ a. absurd a) (λ a. a)))

  -- the globals after a marking at x, and the gray stacks
  mark_at_nil : (x : ℕ) → (mark_at x S).colours.gray 0 ≡ update S.colours.gray x false 0
  unfolding mark_at ungray
  mark_at_nil x = shade_all_nil S.graph (S.graph.field x) (S.graph.pointers x) (ungray x S.colours) (I.tricolour m).nil

  mark_at_stacks : (x : ℕ) → (mark_at x S).colours.gray_stack ≡ S.colours.gray_stack
  unfolding mark_at ungray
  mark_at_stacks x = shade_all_gray_stack S.graph (S.graph.field x) (S.graph.pointers x) (ungray x S.colours)

  -- a scan of the gray globals
  pub globals_falls : (n : ℕ) → T (S.colours.gray 0) → left n (perform scan_globals S) < left n S
  unfolding perform
  globals_falls n g = rw (mark_at_stacks 0, mark_at_nil 0, update_same S.colours.gray 0 false, of_true (S.colours.gray 0) g)
      (omega (arith, whites_le S (mark_at 0 S) (mark_at_allocated 0 S) (mark_at_born 0 S) (darkens scan_globals S tt p I m).black))

  -- a mark step
  pub mark_falls : (n x : ℕ) → 0 < x → T (S.colours.gray x) → left n (perform (mark_step x) S) < left n S
  unfolding perform
  mark_falls n x z g = rw (mark_at_stacks x, mark_at_nil x, update_other S.colours.gray x false 0 (omega arith)) (omega (arith, fewer))
    where
      a : T (S.allocated x)
      a = I.kept_allocated x ((I.tricolour m).marked_kept x ((I.tricolour m).gray_marked x g))

      still : (u v w : Bool) → T u → T w → T (u && not (v && not w))
      still true true true t s = tt
      still true true false t s = absurd s
      still true false w t s = tt
      still false v w t s = absurd t

      fewer : whites (mark_at x S) < whites S
      fewer = rw (mark_at_allocated x S, mark_at_born x S)
          (count_lt (λ y. S.allocated y && not (black (mark_at x S).colours y)) (λ y. S.allocated y && not (black S.colours y)) S.graph.born x z (I.allocated_born x a)
          (and_not_fails (S.allocated x) (black (mark_at x S).colours x) (marked_black x S ((I.tricolour m).gray_marked x g)))
          (still (S.allocated x) (S.colours.marked x) (S.colours.gray x) a g)
          (λ y _ _. not_both (S.allocated y) (black S.colours y) (black (mark_at x S).colours y) ((darkens (mark_step x) S tt (p, z, g) I m).black y)))

-- a scan or a mark step
pub data Collecting : Operation → Type 0 where
  scan : (t : ℕ) → Collecting (scan_stack t)
  globals : Collecting scan_globals
  step : (x : ℕ) → Collecting (mark_step x)

unfoldable pub AllCollecting : List Operation → Type 0
AllCollecting [] = Unit {0}
AllCollecting (c ∷ cs) = Collecting c × AllCollecting cs

-- finish may be called, or a scan or mark step may be and lowers what is left to do
pub data Next (n : ℕ) (S : State) : Type 0 where
  finishes : Allowed finish S → Next n S
  collects : (c : Operation) → Collecting c → Allowed c S → left n (perform c S) < left n S → Next n S

abbrev pub StacksBelow : ℕ → State → Type 0
StacksBelow n S = (t : ℕ) → T (S.colours.gray_stack t) → t < n

pub next : (n : ℕ) (S : State) → Invariant S → S.phase ≡ mark → StacksBelow n S → Next n S
next n S I p b = stacks (find S.colours.gray_stack n)
  where
    none : (p : ℕ → Bool) (k : ℕ) → ((x : ℕ) → x < k → T (not (p x))) → ((x : ℕ) → T (p x) → x < k) → (x : ℕ) → T (not (p x))
    none p k f g x = go (test (p x))
      where
        go : (T (p x) ⊎ T (not (p x))) → T (not (p x))
        go (inl t) = f x (g x t)
        go (inr t) = t

    at : (x : ℕ) → T (S.colours.gray x) → (T (eqb x 0) ⊎ T (not (eqb x 0))) → Next n S
    at x g (inl e) = collects scan_globals globals p (globals_falls S I p n (rw (eqb→eq x 0 e) at g))
    at x g (inr e) = let z : 0 < x = omega (arith, differ x 0 e) in collects (mark_step x) (step x) (p, z, g) (mark_falls S I p n x z g)

    records : ((t : ℕ) → T (not (S.colours.gray_stack t))) →
        (((x : ℕ) × (x < S.graph.born) × T (S.colours.gray x)) ⊎ ((x : ℕ) → x < S.graph.born → T (not (S.colours.gray x)))) →
        Next n S
    records h (inl r) = at r.0 r.2 (test (eqb r.0 0))
    records h (inr f) = finishes (p, (λ x _. none S.colours.gray S.graph.born f (gray_born I (rw p tt)) x), h)

    stacks : (((t : ℕ) × (t < n) × T (S.colours.gray_stack t)) ⊎ ((t : ℕ) → t < n → T (not (S.colours.gray_stack t)))) → Next n S
    stacks (inl r) = collects (scan_stack r.0) (scan r.0) p (scan_falls S I p n r.0 r.1 r.2)
    stacks (inr f) = records (none S.colours.gray_stack n f b) (find S.colours.gray S.graph.born)

-- such a call stays in the mark phase and makes no stack gray
pub collecting_phase : {c : Operation} → Collecting c → (S : State) → (perform c S).phase ≡ S.phase
unfolding perform mark_at
collecting_phase (scan t) S = refl
collecting_phase globals S = refl
collecting_phase (step x) S = refl

collecting_stacks : {c : Operation} → Collecting c → (S : State) (t : ℕ) → T ((perform c S).colours.gray_stack t) → T (S.colours.gray_stack t)
unfolding perform mark_at set_gray_stack ungray
collecting_stacks (scan u) S t = rw (shade_all_gray_stack S.graph (S.graph.slot u) slot_count S.colours)
    (update_case (λ (b : Bool). T b → T (S.colours.gray_stack t)) S.colours.gray_stack u false t (λ _ a. absurd a) (λ a. a))
collecting_stacks globals S t = rw (shade_all_gray_stack S.graph (S.graph.field 0) (S.graph.pointers 0) (ungray 0 S.colours))
    (λ a. a)
collecting_stacks (step x) S t = rw (shade_all_gray_stack S.graph (S.graph.field x) (S.graph.pointers x) (ungray x S.colours))
    (λ a. a)

-- PROGRESS in the mark phase: no more scans and mark steps than are left to do, and then finish may be called
pub record Finishes (S : State) (k : ℕ) : Type 0 where
  pub calls : List Operation
  pub collecting : AllCollecting calls
  pub allowed : AllAllowed calls S
  pub short : length calls ≤ k
  pub finish : Allowed finish (perform_all calls S)

within : (k n : ℕ) (S : State) → left n S ≤ k → Invariant S → S.phase ≡ mark → StacksBelow n S → Finishes S k
unfolding AllCollecting AllAllowed perform_all
within zero n S l I p b = go (next n S I p b)
  where
    go : Next n S → Finishes S 0
    go (finishes f) = record { calls = []; collecting = tt; allowed = tt; short = omega arith; finish = f }
    go (collects c d a h) = absurd (omega arith)
within (suc k) n S l I p b = go (next n S I p b) (λ c d a h. within k n (perform c S) (omega arith) (perform_keeps c S a I) (collecting_phase d S ∙ p) (λ t g. b t (collecting_stacks d S t g)))
  where
    go : Next n S → ((c : Operation) → Collecting c → Allowed c S → left n (perform c S) < left n S → Finishes (perform c S) k) → Finishes S (suc k)
    go (finishes f) r = record { calls = []; collecting = tt; allowed = tt; short = omega arith; finish = f }
    go (collects c d a h) r = let F = r c d a h in
        record { calls = c ∷ F.calls; collecting = (d, F.collecting); allowed = (a, F.allowed); short = omega (arith, F.short); finish = F.finish }

pub mark_progress : (n : ℕ) (S : State) → Invariant S → S.phase ≡ mark → StacksBelow n S → Finishes S (left n S)
mark_progress n S I p b = within (left n S) n S (omega arith) I p b

-- PROGRESS in the sweep phase: what is allocated and not kept goes where it is swept, and where none is left the cycle may end
abbrev pub unkept : State → ℕ
unkept S = count (λ x. S.allocated x && not (S.kept x)) S.graph.born

pub sweep_falls : (S : State) → Invariant S → (q : ℕ → Bool) (x : ℕ) → 0 < x → T (S.allocated x) → T (not (S.kept x)) → T (q x) →
    unkept (perform (sweep_step q) S) < unkept S
unfolding perform
sweep_falls S I q x z a k h = count_lt (λ y. cond (q y) (S.kept y) (S.allocated y) && not (S.kept y))
    (λ y. S.allocated y && not (S.kept y)) S.graph.born x z (I.allocated_born x a)
    (gone (q x) (S.kept x) (S.allocated x) h) (and_both (S.allocated x) (not (S.kept x)) a k) (λ y _ _. was (q y) (S.kept y) (S.allocated y))
  where
    gone : (b k a : Bool) → T b → T (not (cond b k a && not k))
    gone true true a t = tt
    gone true false a t = tt
    gone false k a t = absurd t

    was : (b k a : Bool) → T (cond b k a && not k) → T (a && not k)
    was true true a t = absurd t
    was true false a t = absurd t
    was false k a t = t

pub sweep_ends : (S : State) → Invariant S → S.phase ≡ sweep → unkept S ≡ 0 → Allowed end_cycle S
sweep_ends S I p e = (p, λ x a. go x a (test (S.kept x)) (test (eqb x 0)))
  where
    none : ℕ → Bool
    none x = false

    go : (x : ℕ) → T (S.allocated x) → (T (S.kept x) ⊎ T (not (S.kept x))) → (T (eqb x 0) ⊎ T (not (eqb x 0))) → T (S.kept x)
    go x a (inl k) z = k
    go x a (inr k) (inl z) = rw (eqb→eq x 0 z) I.kept_closed.nil
    go x a (inr k) (inr z) = absurd (omega (
      arith,
      count_lt none (λ y. S.allocated y && not (S.kept y)) S.graph.born x (omega (arith, differ x 0 z)) (I.allocated_born x a) tt (and_both (S.allocated x) _ a k) (λ y _ _ t. absurd t),
    ))

-- one sweep step over all the heap will do
pub sweep_progress : (S : State) → Invariant S → S.phase ≡ sweep → Allowed end_cycle (perform (sweep_step (λ x. true)) S)
unfolding perform
sweep_progress S I p = (p, λ x k. k)

-- A finish: whether a stack is gray, its refusal as a row, and what makes every span unswept.
use Prim.Native.Nat.{ℕ, zero, suc, ◌+◌, ◌<◌, ◌≤◌}
use mathlib.Core.Bool.{Bool, true, false, not, ◌&&◌, ◌||◌}
use mathlib.Core.List.{List}
use mathlib.Core.Path.{◌≡◌, refl, sym, ◌∙◌, ap}
use native.Mathlib.Numerals.{add-one}
use native.Mathlib.Omega.{arith}
use lib.ListN.{length, length-drop, get_or, take, drop}
use lib.Seq.{get_or-drop}
use Rattle.std.specs.List.{list_any}
use Rattle.std.specs.Prelude.{◌==◌}
use Rattle.std.proofs.lemmas.List.Folds.{list_any_more}
use Rattle.model.specs.Bounded.{some_below, all_below, ◌<?◌}
use Rattle.model.specs.Memory.{Heap, lent, words, state, globals_state, stack_count, mark, gray_state}
use Rattle.model.specs.Answers.{unfinished, ◌given◌, ◌or_else◌}
use Rattle.model.specs.Checks.{phase_refusal}
use Rattle.model.specs.Cycle.{first_gray, finish_refusal}
use Rattle.model.proofs.Outcomes.{or_else_assoc}
use Rattle.model.specs.Facts.{Audited}
use Rattle.page_entries.specs.Needs.{Flaggable}
use Rattle.call_cycle_marks.specs.Needs.{roots_refusal}

-- some of the n values from a place on passes a test
pub some_of : (test : ℕ → Bool) (from n : ℕ) (l : List ℕ) → from + n ≤ length l → list_any test (take n (drop from l)) ≡ some_below n (λ k. test (get_or l (from + k) 0))
unfolding some_below all_below
some_of test from zero l h = refl
some_of test from (suc n) l h =
    let lt : n < length (drop from l) = simp length-drop (omega arith) in
    rw (← add-one, list_any_more test (drop from l) n 0 lt, get_or-drop, some_of test from n l (omega arith))
    (go (all_below n (λ k. not (test (get_or l (from + k) 0)))) (test (get_or l (from + n) 0)))
  where
    go : (a b : Bool) → (not a || b) ≡ not (a && not b)
    go true true = refl
    go true false = refl
    go false b = refl

-- the three tests of what is gray as two refusals
pub finish_row : (h : Heap) → finish_refusal h ≡ ((phase_refusal h mark or_else roots_refusal h) or_else unfinished given first_gray h <? words h)
unfolding finish_refusal ◌given◌ ◌or_else◌
finish_row h = ap (λ n. phase_refusal h mark or_else n) (go (some_below stack_count (λ s. state h s == gray_state)) (globals_state h == gray_state) (first_gray h <? words h)) ∙ sym (or_else_assoc (phase_refusal h mark) (roots_refusal h) (unfinished given first_gray h <? words h))
  where
    go : (x y z : Bool) → (unfinished given (x || y || z)) ≡ (unfinished given (x || y) or_else unfinished given z)
    go true y z = refl
    go false true z = refl
    go false false z = refl

-- the kinds of audited spans have room for the flag
pub flaggable : {p : ℕ} {a t b r : List ℕ} → Audited (lent p a t b r) → Flaggable p t
flaggable A = record { table = A.sized.table; room = λ s l e. omega (arith, (A.spans.entry s e).flag) }

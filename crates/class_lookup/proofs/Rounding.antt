-- A size rounded up to whole steps keeps its class, where every element that holds it is whole steps.
use Prim.Native.Nat.{ℕ, ◌+◌, ◌*◌, ◌/◌, ◌%◌, ◌<◌, ◌≤◌}
use mathlib.Core.Bool.{Bool, true, false, ◌&&◌}
use mathlib.Core.Path.{◌≡◌, refl}
use native.Mathlib.Nat.{div-add-mod, mul-le-mul_left, mul-suc, le_trans}
use native.Mathlib.Omega.{arith}
use lib.Dec.{ltb}
use borrow.Author.Tests.{le-ltb, ltb-true, ltb-false}
use Rattle.std.specs.Prelude.{◌==◌}
use Rattle.model.specs.Bounded.{◌<?◌, ◌≤?◌, ◌implies◌, all_below}
use Rattle.model.specs.Classes.{rows, class_rows, element_bytes, max_small, class_of}
use Rattle.model.proofs.Tests.{is_true, same_test, and_iff, implies_iff, eqb_iff, ltb_iff, leb_iff}
use Rattle.model.proofs.Bounded.{all_at, first_cong}
use Rattle.class_lookup.specs.Tables.{fine_step, fine_size, fine_last, coarse_start, coarse_step, coarse_size}

-- row k: an element is whole fine steps, and one above the last size of the fine table is whole coarse steps
step_test : ℕ → Bool
step_test k =
    element_bytes (k + 1) % fine_step == 0 && (fine_last <? element_bytes (k + 1) implies element_bytes (k + 1) % coarse_step == 0)

step_tests : all_below rows step_test ≡ true
unfolding step_test ◌implies◌ element_bytes class_rows all_below
step_tests = refl

step_at : (k : ℕ) → k < rows → (element_bytes (k + 1) % fine_step ≡ 0) × (fine_last < element_bytes (k + 1) → element_bytes (k + 1) % coarse_step ≡ 0)
unfolding step_test
step_at k l = simp (and_iff, implies_iff, ltb_iff, eqb_iff) at (is_true _ (all_at rows step_test step_tests k l))

-- no element of whole steps lies between a size and the size rounded up
next_step : (step size n e : ℕ) → step * n < size + step → e % step ≡ 0 → size ≤ e → step * n ≤ e
next_step step size n e l w h = go (ltb (e / step) n) refl
  where
    whole : e ≡ step * (e / step)
    whole = omega (arith, div-add-mod e step, w)

    go : (b : Bool) → ltb (e / step) n ≡ b → step * n ≤ e
    go true q =
        let m = mul-le-mul_left step (ltb-true (e / step) n q) in
        omega (arith, m, mul-suc step (e / step), whole)
    go false q = omega (arith, mul-le-mul_left step (ltb-false (e / step) n q), whole)

rounded : (step size n : ℕ) → ((k : ℕ) → k < rows → size ≤ element_bytes (k + 1) → element_bytes (k + 1) % step ≡ 0) →
    size ≤ step * n → step * n < size + step → step * n ≤ max_small → class_of (step * n) ≡ class_of size
unfolding class_of
rounded step size n w h l m = rw (le-ltb max_small (step * n) m, le-ltb max_small size (omega arith), first_cong rows _ _ agree)
  where
    agree : (k : ℕ) → k < rows → (step * n ≤? element_bytes (k + 1)) ≡ (size ≤? element_bytes (k + 1))
    agree k q =
        let e = element_bytes (k + 1) in
        same_test _ _
        (λ t. (leb_iff size e).1 (le_trans h ((leb_iff (step * n) e).0 t)))
        (λ t. let f = (leb_iff size e).0 t in (leb_iff (step * n) e).1 (next_step step size n e l (w k q f) f))

pub fine_rounded : (size i : ℕ) → size ≤ fine_size i → fine_size i < size + fine_step → fine_size i ≤ max_small → class_of (fine_size i) ≡ class_of size
fine_rounded size i = rounded fine_step size i (λ k l h. (step_at k l).0)

pub coarse_rounded : (size i : ℕ) → fine_last < size → size ≤ coarse_size i → coarse_size i < size + coarse_step → coarse_size i ≤ max_small → class_of (coarse_size i) ≡ class_of size
coarse_rounded size i m =
    let e : coarse_size i ≡ coarse_step * (coarse_start / coarse_step + i) = omega arith in
    rw e (rounded coarse_step size (coarse_start / coarse_step + i) (λ k l h. (step_at k l).1 (omega arith)))

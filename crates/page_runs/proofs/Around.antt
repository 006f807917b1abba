-- Laws of the run of free pages around a page: where it starts, and what settles that.
use Prim.Native.Nat.{ℕ, ◌+◌, ◌-◌, ◌<◌, ◌≤◌}
use mathlib.Core.Bool.{Bool, true, ◌||◌, not}
use mathlib.Core.List.{List}
use mathlib.Core.Path.{◌≡◌, ap}
use mathlib.Core.Logic.{⊎_elim}
use native.Mathlib.Nat.{eq-or-lt_of_le}
use native.Mathlib.Omega.{arith}
use lib.Dec.{eqb}
use borrow.Author.Tests.{ne_eqb}
use Rattle.model.specs.Spans.{is_free}
use Rattle.model.specs.Bounded.{first_below}
use Rattle.model.proofs.Bounded.{first_is}
use Rattle.page_runs.specs.Around.{run_start}

-- it starts at page s or below
pub start_within : (t : List ℕ) (s : ℕ) → run_start t s ≤ s
unfolding run_start
start_within t s = omega arith

-- one more free page below pages that are free
pub free_below : (t : List ℕ) (r s : ℕ) → ((x : ℕ) → r ≤ x → x < s → is_free t x ≡ true) → is_free t (r - 1) ≡ true → (x : ℕ) → r - 1 ≤ x → x < s → is_free t x ≡ true
free_below t r s f y x h l = ⊎_elim (λ e. rw (← e) y) (λ m. f x (omega arith) l) (eq-or-lt_of_le h)

-- it starts at page r: the pages from r up to s are free, and the page before r is not, if there is one
pub start_is : (t : List ℕ) (r s : ℕ) → r ≤ s → ((x : ℕ) → r ≤ x → x < s → is_free t x ≡ true) → (eqb r 0 || not (is_free t (r - 1))) ≡ true → run_start t s ≡ r
unfolding run_start
start_is t r s h f y = omega (arith, below)
  where
    used : ℕ → Bool
    used k = not (is_free t (s - (k + 1)))

    stops : s - r < s → used (s - r) ≡ true
    stops l =
        let e : s - (s - r + 1) ≡ r - 1 = omega arith in
        rw e (rw (ne_eqb r 0 (omega arith)) at y)

    below : first_below s used ≡ s - r
    below = first_is s used (s - r) (record { within = omega arith; before = λ k l. ap not (f (s - (k + 1)) (omega arith) (omega arith)); holds = stops })

-- Laws of the allocator's choice of pages: what a run's length says of its pages, and what settles the best run.
use Prim.Native.Nat.{ℕ, ◌+◌, ◌-◌, ◌<◌, ◌≤◌}
use mathlib.Core.Bool.{Bool, true, false, ◌&&◌, ◌||◌, not}
use mathlib.Core.List.{List}
use mathlib.Core.Path.{◌≡◌, refl, sym, ◌∙◌, ap}
use native.Mathlib.Omega.{arith}
use lib.Dec.{eqb, ltb, leb}
use borrow.Author.Tests.{ltb-true, ltb-false, le-leb, lt-leb, not-true, not-false}
use Rattle.model.specs.Bounded.{◌≤?◌, ◌implies◌, all_below}
use Rattle.model.specs.Spans.{is_free}
use Rattle.model.specs.Allocate.{run_length, is_run, is_shortest, best_run}
use Rattle.model.proofs.Tests.{is_true, of_true, and_iff, leb_iff}
use Rattle.model.proofs.Bounded.{first_is, first_props, all_at, all_from}

-- a run of free pages ends inside the arena
pub run_within : (p : ℕ) (t : List ℕ) (g : ℕ) → run_length p t g ≤ p - g
unfolding run_length
run_within p t g = (first_props (p - g) _).within

-- its pages are free
pub run_free : (p : ℕ) (t : List ℕ) (g k : ℕ) → g ≤ k → k < g + run_length p t g → is_free t k ≡ true
unfolding run_length
run_free p t g k h l =
    let e : g + (k - g) ≡ k = omega arith in
    rw e at (not-false (is_free t (g + (k - g))) ((first_props (p - g) (λ j. not (is_free t (g + j)))).before (k - g) (omega arith)))

-- the page after it is not
pub run_end : (p : ℕ) (t : List ℕ) (g : ℕ) → g + run_length p t g < p → is_free t (g + run_length p t g) ≡ false
unfolding run_length
run_end p t g l = not-true _ ((first_props (p - g) (λ j. not (is_free t (g + j)))).holds (omega arith))

-- both settle its length: the pages from g up to k are free, and k is not
pub run_is : (p : ℕ) (t : List ℕ) (g k : ℕ) → g ≤ k → k ≤ p → ((j : ℕ) → j < k → g ≤ j → is_free t j ≡ true) → (k < p → is_free t k ≡ false) → k - g ≡ run_length p t g
unfolding run_length
run_is p t g k h l f y =
    sym (first_is (p - g) (λ j. not (is_free t (g + j))) (k - g) (record { within = omega arith; before = λ j m. ap not (f (g + j) (omega arith) (omega arith)); holds = λ m. rw e (ap not (y (omega arith))) }))
  where
    e : g + (k - g) ≡ k
    e = omega arith

-- a run has at least n pages
pub run_long : (p : ℕ) (t : List ℕ) (n g : ℕ) → is_run p t n g ≡ true → n ≤ run_length p t g
unfolding is_run
run_long p t n g e =
    (leb_iff n (run_length p t g)).0 ((and_iff (is_free t g && (eqb g 0 || not (is_free t (g - 1)))) (leb n (run_length p t g))).0 (is_true _ e)).1

-- page r holds the run that the allocator takes for n pages, or is p where none is long enough
pub record Best (p : ℕ) (t : List ℕ) (n r : ℕ) : Type 0 where
  pub within : r ≤ p
  pub long_enough : r < p → is_run p t n r ≡ true
  pub shortest : r < p → (k : ℕ) → k < p → is_run p t n k ≡ true → run_length p t r ≤ run_length p t k
  pub before : r < p → (k : ℕ) → k < r → is_run p t n k ≡ true → run_length p t r < run_length p t k
  pub none : p ≤ r → (k : ℕ) → k < p → is_run p t n k ≡ false

module _ (p : ℕ) (t : List ℕ) (n : ℕ) where
  no_run : (k : ℕ) → is_run p t n k ≡ false → is_shortest p t n k ≡ false
  unfolding is_shortest
  no_run k e = rw e

  not_shortest : (k r : ℕ) → r < p → is_run p t n r ≡ true → (is_run p t n k ≡ true → run_length p t r < run_length p t k) → is_shortest p t n k ≡ false
  unfolding is_shortest ◌implies◌
  not_shortest k r l y f = go (is_run p t n k) refl (all_below p shorter) refl
    where
      shorter : ℕ → Bool
      shorter j = is_run p t n j implies run_length p t k ≤? run_length p t j

      go : (a : Bool) → is_run p t n k ≡ a → (b : Bool) → all_below p shorter ≡ b → (a && b) ≡ false
      go false e b q = refl
      go true e false q = refl
      go true e true q = sym (all_at p shorter q r l) ∙ rw (y, lt-leb (run_length p t k) (run_length p t r) (f e))

  shortest : (r : ℕ) → is_run p t n r ≡ true → ((k : ℕ) → k < p → is_run p t n k ≡ true → run_length p t r ≤ run_length p t k) → is_shortest p t n r ≡ true
  unfolding is_shortest ◌implies◌
  shortest r y f = rw y (all_from p _ (λ k l. each k l (is_run p t n k) refl))
    where
      each : (k : ℕ) → k < p → (b : Bool) → is_run p t n k ≡ b → (b implies run_length p t r ≤? run_length p t k) ≡ true
      each k l true e = le-leb (run_length p t r) (run_length p t k) (f k l e)
      each k l false e = refl

  pub best_is : (r : ℕ) → Best p t n r → best_run p t n ≡ r
  unfolding best_run
  best_is r b = first_is p (is_shortest p t n) r (record { within = b.within; before = before; holds = λ l. shortest r (b.long_enough l) (b.shortest l) })
    where
      before : (k : ℕ) → k < r → is_shortest p t n k ≡ false
      before k l = go (ltb r p) refl
        where
          go : (c : Bool) → ltb r p ≡ c → is_shortest p t n k ≡ false
          go true e = let m = ltb-true r p e in not_shortest k r m (b.long_enough m) (b.before m k l)
          go false e = no_run k (b.none (ltb-false r p e) k (omega (arith, b.within)))

-- what the best run is, where there is one: a run of at least n pages
module _ (p : ℕ) (t : List ℕ) (n : ℕ) (l : best_run p t n < p) where
  best_run_lem : is_run p t n (best_run p t n) ≡ true
  unfolding best_run is_shortest
  best_run_lem = of_true _ ((and_iff (is_run p t n (best_run p t n)) _).0 (is_true _ ((first_props p (is_shortest p t n)).holds l))).0

  pub best_long : n ≤ run_length p t (best_run p t n)
  best_long = run_long p t n (best_run p t n) best_run_lem

  -- no free page stands before it
  pub best_starts : (eqb (best_run p t n) 0 || not (is_free t (best_run p t n - 1))) ≡ true
  unfolding is_run
  best_starts =
      let r = best_run p t n in
      of_true _ ((and_iff (is_free t r) (eqb r 0 || not (is_free t (r - 1)))).0
      ((and_iff (is_free t r && (eqb r 0 || not (is_free t (r - 1)))) (leb n (run_length p t r))).0 (is_true _ best_run_lem)).0).1

  pub best_fits : best_run p t n + n ≤ p
  best_fits = omega (arith, best_long, run_within p t (best_run p t n))

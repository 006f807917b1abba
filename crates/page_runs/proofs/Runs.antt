-- The search for the best run, which steps from run to run.
use Prim.Native.Nat.{ℕ, ◌+◌, ◌-◌, ◌<◌, ◌≤◌}
use mathlib.Core.Bool.{Bool, true, false, ◌||◌, not, and-false}
use mathlib.Core.List.{List}
use mathlib.Core.Path.{◌≡◌, refl, sym}
use native.Mathlib.Omega.{arith}
use lib.Dec.{eqb, ltb}
use borrow.Author.Tests.{ltb-true, ltb-false, eqb-true, eqb-false, le-leb, lt-leb, ne_eqb}
use Rattle.model.specs.Spans.{is_free}
use Rattle.model.specs.Allocate.{run_length, is_run, best_run}
use Rattle.model.proofs.Tests.{clash}
use Rattle.std.specs.Prelude.{Option, Some, None}
use Rattle.units.specs.declared.Page.{Page}
use Rattle.page_runs.specs.Found.{FoundPage}
use Rattle.page_runs.proofs.Allocate.{run_within, run_free, run_end, best_is}

-- a run of free pages may start at page g: no free page stands before it
abbrev pub RunMayStart : List ℕ → ℕ → Type 0
RunMayStart t g = (eqb g 0 || not (is_free t (g - 1))) ≡ true

-- page b starts the lowest of the shortest runs of at least n pages that start below page g, and it has `least` pages
pub record BestBelow (p : ℕ) (t : List ℕ) (n g b least : ℕ) : Type 0 where
  pub below : b < g
  pub inside : b < p
  pub run : is_run p t n b ≡ true
  pub long : run_length p t b ≡ least
  pub before : (k : ℕ) → k < b → is_run p t n k ≡ true → least < run_length p t k

-- .. if there is one; no run has more than p pages
abbrev pub Kept : ℕ → List ℕ → ℕ → ℕ → ℕ → Option Page → Type 0
Kept p t n g least (Some b) = BestBelow p t n g b.0 least
Kept p t n g least None = p < least

pub record SoFar (p : ℕ) (t : List ℕ) (n g : ℕ) (best : Option Page) (least : ℕ) : Type 0 where
  pub fresh : g < p → RunMayStart t g
  pub low : (k : ℕ) → k < g → is_run p t n k ≡ true → least ≤ run_length p t k
  pub kept : Kept p t n g least best

module _ (p : ℕ) (t : List ℕ) (n : ℕ) where
  pub none_yet : SoFar p t n 0 None (p + 1)
  none_yet = record { fresh = λ l. refl; low = λ k l. absurd (omega arith); kept = omega arith }

  later : (g g' least : ℕ) → g ≤ g' → (best : Option Page) → Kept p t n g least best → Kept p t n g' least best
  later g g' least h (Some b) K = record { below = omega arith; inside = K.inside; run = K.run; long = K.long; before = K.before }
  later g g' least h None K = K

  -- at page g, before which there is no free page
  module _ (g : ℕ) where
    -- a run starts there, if it is long enough
    starts : RunMayStart t g → 0 < n → n ≤ run_length p t g → is_run p t n g ≡ true
    unfolding is_run
    starts f h l = rw (run_free p t g g (omega arith) (omega arith), f, le-leb n (run_length p t g) l)

    pub too_short : run_length p t g < n → is_run p t n g ≡ false
    unfolding is_run
    too_short l = rw (lt-leb n (run_length p t g) l, and-false)

    -- none starts at its further pages, nor at the page after it
    further : (k : ℕ) → g < k → k < g + run_length p t g + 1 → is_run p t n k ≡ false
    unfolding is_run
    further k h l = rw (run_free p t g (k - 1) (omega arith) (omega arith), ne_eqb k 0 (omega arith), and-false (is_free t k))

    -- no free page stands before the page after that
    next : g + run_length p t g + 1 < p → RunMayStart t (g + run_length p t g + 1)
    next l =
        let e : g + run_length p t g + 1 - 1 ≡ g + run_length p t g = omega arith in
        rw (ne_eqb (g + run_length p t g + 1) 0 (omega arith), e, run_end p t g (omega arith))

    -- what is no longer than the runs below page g and at g is no longer than those up to g's end
    passed : (m : ℕ) → ((k : ℕ) → k < g → is_run p t n k ≡ true → m ≤ run_length p t k) → (is_run p t n g ≡ true → m ≤ run_length p t g) →
        (k : ℕ) → k < g + run_length p t g + 1 → is_run p t n k ≡ true → m ≤ run_length p t k
    passed m f y k l r = go (ltb k g) refl (eqb k g) refl
      where
        go : (a : Bool) → ltb k g ≡ a → (b : Bool) → eqb k g ≡ b → m ≤ run_length p t k
        go true e b q = f k (ltb-true k g e) r
        go false e true q = let i : k ≡ g = eqb-true k g q in rw i (y (rw i at r))
        go false e false q = clash (is_run p t n k) r (further k (omega (arith, ltb-false k g e, eqb-false k g q)) l)

    module _ (best : Option Page) (least : ℕ) (s : SoFar p t n g best least) where
      -- page g's run is no better
      pub worse : (is_run p t n g ≡ true → least ≤ run_length p t g) → SoFar p t n (g + run_length p t g + 1) best least
      worse y = record { fresh = next; low = passed least s.low y; kept = later g (g + run_length p t g + 1) least (omega arith) best s.kept }

      -- it is
      pub better : g < p → 0 < n → n ≤ run_length p t g → run_length p t g < least → SoFar p t n (g + run_length p t g + 1) (Some (record { 0 = g })) (run_length p t g)
      better l h q m =
          record {
            fresh = next;
            low = passed (run_length p t g) (λ k i r. omega (arith, s.low k i r)) (λ r. omega arith);
            kept = record { below = omega arith; inside = l; run = starts (s.fresh l) h q; long = refl; before = λ k j r. omega (arith, s.low k j r) };
          }

  -- after the last page
  module _ (g least : ℕ) (h : p ≤ g) where
    pub ended : (best : Option Page) → SoFar p t n g best least → FoundPage p (best_run p t n) best
    ended (Some b) s =
        let K : BestBelow p t n g b.0 least = s.kept in
        let e : best_run p t n ≡ b.0 = best_is p t n b.0 (record {
          within = omega (arith, K.inside);
          long_enough = λ l. K.run;
          shortest = λ l k m r. omega (arith, K.long, s.low k (omega arith) r);
          before = λ l k m r. omega (arith, K.long, K.before k m r);
          none = λ q. absurd (omega (arith, K.inside, q));
        }) in
        (sym e, rw e K.inside)
    ended None s =
        best_is p t n p (record {
          within = omega arith;
          long_enough = λ l. absurd (omega arith);
          shortest = λ l. absurd (omega arith);
          before = λ l. absurd (omega arith);
          none = λ q k l. none k l (is_run p t n k) refl;
        })
      where
        none : (k : ℕ) → k < p → (c : Bool) → is_run p t n k ≡ c → c ≡ false
        none k l true e = absurd (omega (arith, s.kept, s.low k (omega arith) e, run_within p t k))
        none k l false e = refl

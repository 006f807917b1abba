-- The class table: what its 66 rows have in common, found by one computed test, and what a size that is accepted takes.
use Prim.Native.Nat.{ℕ, ◌+◌, ◌-◌, ◌*◌, ◌/◌, ◌%◌, ◌<◌, ◌≤◌}
use mathlib.Core.Bool.{Bool, true, false, ◌&&◌, cond}
use mathlib.Core.Logic.{◌≢◌}
use mathlib.Core.Path.{◌≡◌, refl, sym}
use native.Mathlib.Omega.{arith}
use lib.Dec.{eqb, ltb}
use borrow.Author.Tests.{ltb-true, ltb-false, eqb-true, eqb-false, ne_eqb, lt-ltb, le-ltb, leb-true, leb-false}
use Rattle.model.specs.Memory.{page_words, word_bytes, page_bytes}
use Rattle.std.specs.Prelude.{◌==◌}
use Rattle.model.specs.Bounded.{◌<?◌, ◌≤?◌, all_below, first_below}
use Rattle.model.specs.Classes.{class_rows, element_bytes, span_bytes, class_of, elements_of, element_words_of, class_pages, pages_for, kind_of, rows, kinds, max_small, max_size, fewest_large, most_large}
use Rattle.model.proofs.Tests.{is_true}
use Rattle.model.proofs.Bounded.{all_at, first_props, First}
use Rattle.model.proofs.Rules.{tests}

-- row k: an element has words and lies in the span, the span has 1 to 10 pages, its elements fit into it, and there is at least one
good_row : ℕ → Bool
good_row k =
    0 <? element_words_of (k + 1) 0 && 0 <? class_pages (k + 1) && class_pages (k + 1) ≤? 10 && 0 <? elements_of (k + 1)
    && elements_of (k + 1) * element_words_of (k + 1) 0 ≤? page_words * class_pages (k + 1)

good_rows : all_below rows good_row ≡ true
unfolding all_below good_row element_words_of elements_of class_pages element_bytes span_bytes class_rows
good_rows = refl

-- elements of class c in a span of n pages
pub record Fits (c n : ℕ) : Type 0 where
  pub words : 0 < element_words_of c n
  pub pages : 0 < n
  pub short : n ≤ most_large
  pub some : 0 < elements_of c
  pub inside : elements_of c * element_words_of c n ≤ page_words * n

-- the words of an element: of all pages in class 0, else of the class's bytes
pub large_words : (n : ℕ) → element_words_of 0 n ≡ page_words * n
unfolding element_words_of
large_words n = refl

pub small_words : (c n : ℕ) → c ≢ 0 → element_words_of c n ≡ element_bytes c / word_bytes
unfolding element_words_of
small_words c n d = rw (ne_eqb c 0 d)

large_class : (size : ℕ) → ltb max_small size ≡ true → class_of size ≡ 0
unfolding class_of
large_class size e = rw e

pub large_pages : (size : ℕ) → class_of size ≡ 0 → pages_for size ≡ (size + (page_bytes - 1)) / page_bytes
unfolding pages_for
large_pages size c = rw c

pub small_pages : (size : ℕ) → class_of size ≢ 0 → pages_for size ≡ class_pages (class_of size)
unfolding pages_for
small_pages size d = rw (ne_eqb (class_of size) 0 d)

-- a class that is not 0 has elements of one size, whatever the span
pub words_any : (c m n : ℕ) → c ≢ 0 → element_words_of c m ≡ element_words_of c n
unfolding element_words_of
words_any c m n d = rw (ne_eqb c 0 d)

pub small_fits : (c : ℕ) → c ≢ 0 → c ≤ rows → Fits c (class_pages c)
unfolding good_row
small_fits c d l =
    let e : c - 1 + 1 ≡ c = omega arith in
    let x = simp tests at (is_true _ (rw e at (all_at rows good_row good_rows (c - 1) (omega arith)))) in
    let z = words_any c (class_pages c) 0 d in
    record { words = rw z x.0.0.0.0; pages = x.0.0.0.1; short = omega (arith, x.0.0.1); some = x.0.1; inside = rw z x.1 }

pub large_fits : (n : ℕ) → 0 < n → n ≤ most_large → Fits 0 n
unfolding element_words_of elements_of
large_fits n l m = record { words = omega arith; pages = l; short = m; some = omega arith; inside = omega arith }

-- a size of 1 to 32,768 has a class, and fits its element
record Small (size : ℕ) : Type 0 where
  low : class_of size ≢ 0
  high : class_of size ≤ rows
  bytes : size ≤ element_bytes (class_of size)

last_row : element_bytes rows ≡ max_small
unfolding element_bytes class_rows
last_row = refl

small_class : (size : ℕ) → size ≤ max_small → Small size
small_class size l = record { low = omega (arith, is); high = omega (arith, is, below); bytes = rw is (leb-true _ _ (f.holds below)) }
  where
    f : First rows (λ k. size ≤? element_bytes (k + 1)) (first_below rows (λ k. size ≤? element_bytes (k + 1)))
    f = first_props rows (λ k. size ≤? element_bytes (k + 1))

    is : class_of size ≡ first_below rows (λ k. size ≤? element_bytes (k + 1)) + 1
    is = unfold class_of in rw (le-ltb max_small size l)

    below : first_below rows (λ k. size ≤? element_bytes (k + 1)) < rows
    below = go (ltb (first_below rows (λ k. size ≤? element_bytes (k + 1))) rows) refl
      where
        go : (b : Bool) → ltb (first_below rows (λ k. size ≤? element_bytes (k + 1))) rows ≡ b → first_below rows (λ k. size ≤? element_bytes (k + 1)) < rows
        go true e = ltb-true (first_below rows (λ k. size ≤? element_bytes (k + 1))) rows e
        go false e = absurd (omega (arith, leb-false size (element_bytes rows) (f.before (rows - 1) (omega (arith, ltb-false (first_below rows (λ k. size ≤? element_bytes (k + 1))) rows e))), last_row))

pub class_within : (size : ℕ) → class_of size ≤ rows
class_within size = go (ltb max_small size) refl
  where
    go : (b : Bool) → ltb max_small size ≡ b → class_of size ≤ rows
    go true e = rw (large_class size e) (omega arith)
    go false e = (small_class size (ltb-false max_small size e)).high

-- a size has class 0 only where it is too large for the others
pub class_zero : (size : ℕ) → class_of size ≡ 0 → max_small < size
class_zero size h = go (ltb max_small size) refl
  where
    go : (b : Bool) → ltb max_small size ≡ b → max_small < size
    go true e = ltb-true max_small size e
    go false e = absurd ((small_class size (ltb-false max_small size e)).low h)

pub kind_within : (size p : ℕ) → kind_of size p < kinds
unfolding kind_of
kind_within size p = go (eqb p 0)
  where
    go : (b : Bool) → 2 * class_of size + cond b 1 0 < kinds
    go true = omega (arith, class_within size)
    go false = omega (arith, class_within size)

-- the span that a size gets
pub size_fits : (size : ℕ) → size ≤ max_size → Fits (class_of size) (pages_for size)
size_fits size l = go (ltb max_small size) refl
  where
    go : (b : Bool) → ltb max_small size ≡ b → Fits (class_of size) (pages_for size)
    go true e =
        let h = ltb-true max_small size e in
        let c = large_class size e in
        let n = large_pages size c in
        rw c (large_fits (pages_for size) (omega arith) (omega arith))
    go false e =
        let s = small_class size (ltb-false max_small size e) in
        rw (small_pages size s.low) (small_fits (class_of size) s.low s.high)

-- what an accepted size and number of pointers take: the class, its kind and the pages of a new span
pub record Takes (size p : ℕ) : Type 0 where
  pub kind : kind_of size p < kinds
  pub class : kind_of size p / 2 ≡ class_of size
  pub scan : (kind_of size p % 2 == 0) ≡ ltb 0 p
  pub fits : Fits (class_of size) (pages_for size)
  pub pages : (class_of size ≡ 0 → (fewest_large ≤ pages_for size) × (pages_for size ≤ most_large)) × (class_of size ≢ 0 → pages_for size ≡ class_pages (class_of size))
  pub pointers : p ≤ element_words_of (class_of size) (pages_for size)

pub takes : (size p : ℕ) → size ≢ 0 → size ≤ max_size → p ≤ size / word_bytes → Takes size p
takes size p d l m = go (ltb max_small size) refl
  where
    bit : (b : Bool) (c : ℕ) → c ≤ rows → (2 * c + cond b 1 0 < kinds) × ((2 * c + cond b 1 0) / 2 ≡ c) × ((2 * c + cond b 1 0) % 2 ≡ cond b 1 0)
    bit true c h = (omega arith, omega arith, omega arith)
    bit false c h = (omega arith, omega arith, omega arith)

    scan : (c : ℕ) → (2 * c + cond (eqb p 0) 1 0) % 2 ≡ cond (eqb p 0) 1 0 → ((2 * c + cond (eqb p 0) 1 0) % 2 == 0) ≡ ltb 0 p
    scan c e = rw e (go (eqb p 0) refl)
      where
        go : (b : Bool) → eqb p 0 ≡ b → eqb (cond b 1 0) 0 ≡ ltb 0 p
        go true q = rw (eqb-true p 0 q)
        go false q = sym (lt-ltb 0 p (omega (arith, eqb-false p 0 q)))

    kind : (c : ℕ) → class_of size ≡ c → kind_of size p ≡ 2 * c + cond (eqb p 0) 1 0
    kind c e = unfold kind_of in rw e

    go : (b : Bool) → ltb max_small size ≡ b → Takes size p
    go true e =
        let h = ltb-true max_small size e in
        let c = large_class size e in
        let n = large_pages size c in
        let k = bit (eqb p 0) 0 (omega arith) in
        record {
          kind = rw (kind 0 c) k.0;
          class = rw (kind 0 c, c) k.1;
          scan = rw (kind 0 c) (scan 0 k.2);
          fits = size_fits size l;
          pages = (λ _. (omega arith, omega arith), λ z. absurd (z c));
          pointers = rw (c, large_words (pages_for size)) (omega arith);
        }
    go false e =
        let s = small_class size (ltb-false max_small size e) in
        let n = small_pages size s.low in
        let k = bit (eqb p 0) (class_of size) s.high in
        record {
          kind = rw (kind (class_of size) refl) k.0;
          class = rw (kind (class_of size) refl) k.1;
          scan = rw (kind (class_of size) refl) (scan (class_of size) k.2);
          fits = size_fits size l;
          pages = (λ z. absurd (s.low z), λ _. n);
          pointers = rw (small_words (class_of size) (pages_for size) s.low) (omega (arith, s.bytes));
        }

-- Laws of the bounded combinators: what they find, one more step at the end, and what is read after a run of writes.
use Prim.Native.Nat.{ℕ, zero, suc, ◌+◌, ◌<◌, ◌≤◌}
use mathlib.Core.Bool.{Bool, true, false, not, cond, ◌&&◌, and-false}
use mathlib.Core.Path.{◌≡◌, refl, sym, ◌∙◌, ap}
use mathlib.Core.Logic.{⊎_elim, ◌⊎◌, inl, inr, ◌↔◌}
use native.Mathlib.Numerals.{add-one}
use native.Mathlib.Nat.{not-suc-le-zero, eq-or-lt_of_le, le_of_suc-le-suc}
use native.Mathlib.Omega.{arith}
use lib.Dec.{T, eqb, ltb, leb}
use borrow.Author.Tests.{ltb-true, ltb-false, leb-true, leb-false, eqb-true, eqb-false, lt-ltb, le-ltb, le-leb, lt-leb, not-false}
use Rattle.model.specs.Bounded.{all_below, first_from, first_below, some_below, count_below, fold_below, write_run}
use Rattle.model.proofs.Tests.{is_true, of_true, of_false, and_iff}

-- what holds below suc n, by what holds below n and at n
pub below_suc : {P : ℕ → Type 0} (n : ℕ) → ((k : ℕ) → k < n → P k) → P n → (k : ℕ) → k < suc n → P k
below_suc {P} n f h k l = ⊎_elim (λ e. rw e h) (λ q. f k q) (eq-or-lt_of_le (le_of_suc-le-suc l))

-- every number below n passes

pub all_none : (t : ℕ → Bool) → all_below 0 t ≡ true
unfolding all_below
all_none t = refl

pub all_step : (n : ℕ) (t : ℕ → Bool) → all_below (n + 1) t ≡ (all_below n t && t n)
unfolding all_below
all_step n t = rw add-one

pub all_iff : (n : ℕ) (t : ℕ → Bool) → T (all_below n t) ↔ ((k : ℕ) → k < n → T (t k))
unfolding all_below
all_iff n t = (at n, from n)
  where
    at : (n : ℕ) → T (all_below n t) → (k : ℕ) → k < n → T (t k)
    at zero e k l = absurd (not-suc-le-zero l)
    at (suc n) e k l = let b = (and_iff (all_below n t) (t n)).0 e in below_suc {P = λ j. T (t j)} n (at n b.0) b.1 k l

    from : (n : ℕ) → ((k : ℕ) → k < n → T (t k)) → T (all_below n t)
    from zero f = tt
    from (suc n) f = (and_iff (all_below n t) (t n)).1 (from n (λ k l. f k (omega arith)), f n (omega arith))

pub all_at : (n : ℕ) (t : ℕ → Bool) → all_below n t ≡ true → (k : ℕ) → k < n → t k ≡ true
all_at n t e k l = of_true _ ((all_iff n t).0 (is_true _ e) k l)

pub all_from : (n : ℕ) (t : ℕ → Bool) → ((k : ℕ) → k < n → t k ≡ true) → all_below n t ≡ true
all_from n t f = of_true _ ((all_iff n t).1 (λ k l. is_true _ (f k l)))

-- .. and one that does not
pub all_no : (n : ℕ) (t : ℕ → Bool) (k : ℕ) → k < n → t k ≡ false → all_below n t ≡ false
all_no n t k l e = go (all_below n t) refl
  where
    go : (b : Bool) → all_below n t ≡ b → b ≡ false
    go true p = sym (all_at n t p k l) ∙ e
    go false p = refl

pub some_fails : (n : ℕ) (t : ℕ → Bool) → all_below n t ≡ false → (k : ℕ) × (k < n) × (t k ≡ false)
unfolding all_below
some_fails zero t e = absurd (mathlib.Core.Bool.true≢false e)
some_fails (suc n) t e = go (t n) refl (all_below n t) refl e (some_fails n t)
  where
    go : (a : Bool) → t n ≡ a → (b : Bool) → all_below n t ≡ b → (b && a) ≡ false → (all_below n t ≡ false → (k : ℕ) × (k < n) × (t k ≡ false)) → (k : ℕ) × (k < suc n) × (t k ≡ false)
    go false p b q r f = (n, omega arith, p)
    go true p true q r f = absurd (mathlib.Core.Bool.true≢false r)
    go true p false q r f = let x = f q in (x.0, omega (arith, x.1), x.2)

-- some number below n passes

pub some_iff : (n : ℕ) (t : ℕ → Bool) → T (some_below n t) ↔ ((k : ℕ) × (k < n) × T (t k))
unfolding some_below
some_iff n t = (find, found)
  where
    find : T (not (all_below n (λ k. not (t k)))) → (k : ℕ) × (k < n) × T (t k)
    find e =
        let x = some_fails n (λ k. not (t k)) (of_false (all_below n (λ k. not (t k))) e) in
        (x.0, x.1, is_true (t x.0) (not-false (t x.0) x.2))

    found : ((k : ℕ) × (k < n) × T (t k)) → T (not (all_below n (λ k. not (t k))))
    found x = is_true (not (all_below n (λ k. not (t k)))) (ap not (all_no n (λ k. not (t k)) x.0 x.1 (ap not (of_true (t x.0) x.2))))

-- the lowest number below n that passes

pub record First (n : ℕ) (t : ℕ → Bool) (r : ℕ) : Type 0 where
  pub within : r ≤ n
  pub before : (k : ℕ) → k < r → t k ≡ false
  pub holds : r < n → t r ≡ true

record FirstFrom (n k : ℕ) (t : ℕ → Bool) (r : ℕ) : Type 0 where
  low : k ≤ r
  high : r ≤ k + n
  before : (j : ℕ) → k ≤ j → j < r → t j ≡ false
  holds : r < k + n → t r ≡ true

first_from_is : (n k : ℕ) (t : ℕ → Bool) (r : ℕ) → FirstFrom n k t r → first_from n k t ≡ r
unfolding first_from
first_from_is zero k t r f = omega (arith, f.low, f.high)
first_from_is (suc n) k t r f =
    go (ltb k r) refl
    (λ l. first_from_is n (suc k) t r (record { low = l; high = omega (arith, f.high); before = λ j a b. f.before j (omega arith) b; holds = λ b. f.holds (omega arith) }))
  where
    go : (b : Bool) → ltb k r ≡ b → (k < r → first_from n (suc k) t ≡ r) → cond (t k) k (first_from n (suc k) t) ≡ r
    go true p rec =
        let l : k < r = ltb-true k r p in
        rw (f.before k (omega arith) l) (rec l)
    go false p rec =
        let e : r ≡ k = omega (arith, ltb-false k r p, f.low) in
        let y : t r ≡ true = f.holds (omega arith) in
        rw (← e, y)

first_from_props : (n k : ℕ) (t : ℕ → Bool) → FirstFrom n k t (first_from n k t)
unfolding first_from
first_from_props zero k t = record { low = omega arith; high = omega arith; before = λ j a b. absurd (omega arith); holds = λ l. absurd (omega arith) }
first_from_props (suc n) k t = go (t k) refl (first_from_props n (suc k) t)
  where
    go : (b : Bool) → t k ≡ b → {r : ℕ} → FirstFrom n (suc k) t r → FirstFrom (suc n) k t (cond b k r)
    go true e f = record { low = omega arith; high = omega arith; before = λ j a b. absurd (omega arith); holds = λ l. e }
    go false e {r} f =
        record { low = omega (arith, f.low); high = omega (arith, f.high); before = later; holds = λ l. f.holds (omega arith) }
      where
        later : (j : ℕ) → k ≤ j → j < r → t j ≡ false
        later j a b = ⊎_elim (λ q. rw (← q) e) (λ q. f.before j q b) (eq-or-lt_of_le a)

pub first_is : (n : ℕ) (t : ℕ → Bool) (r : ℕ) → First n t r → first_below n t ≡ r
unfolding first_below
first_is n t r f = first_from_is n 0 t r (record { low = omega arith; high = omega (arith, f.within); before = λ j a b. f.before j b; holds = λ l. f.holds (omega arith) })

pub first_props : (n : ℕ) (t : ℕ → Bool) → First n t (first_below n t)
unfolding first_below
first_props n t =
    let f = first_from_props n 0 t in
    record { within = omega (arith, f.high); before = λ k l. f.before k (omega arith) l; holds = λ l. f.holds (omega arith) }

-- tests that agree below n have the same first
pub first_cong : (n : ℕ) (s t : ℕ → Bool) → ((k : ℕ) → k < n → s k ≡ t k) → first_below n s ≡ first_below n t
first_cong n s t f =
    let p = first_props n t in
    first_is n s (first_below n t) (record { within = p.within; before = λ k l. f k (omega (arith, p.within)) ∙ p.before k l; holds = λ l. f (first_below n t) l ∙ p.holds l })

-- how many numbers below n pass

pub count_none : (t : ℕ → Bool) → count_below 0 t ≡ 0
unfolding count_below
count_none t = refl

pub count_step : (n : ℕ) (t : ℕ → Bool) → count_below (n + 1) t ≡ count_below n t + cond (t n) 1 0
unfolding count_below
count_step n t = rw add-one

pub count_bound : (n : ℕ) (t : ℕ → Bool) → count_below n t ≤ n
unfolding count_below
count_bound zero t = omega arith
count_bound (suc n) t = go (t n) (count_bound n t)
  where
    go : (b : Bool) → count_below n t ≤ n → count_below n t + cond b 1 0 ≤ suc n
    go true l = omega arith
    go false l = omega arith

pub count_cong : (n : ℕ) (s t : ℕ → Bool) → ((k : ℕ) → k < n → s k ≡ t k) → count_below n s ≡ count_below n t
unfolding count_below
count_cong zero s t f = refl
count_cong (suc n) s t f = rw (count_cong n s t (λ k l. f k (omega arith)), f n (omega arith))

-- step 0, then step 1, ..

pub fold_none : {A : Type 0} (s : ℕ → A → A) (a : A) → fold_below 0 s a ≡ a
unfolding fold_below
fold_none s a = refl

pub fold_step : {A : Type 0} (n : ℕ) (s : ℕ → A → A) (a : A) → fold_below (n + 1) s a ≡ s n (fold_below n s a)
unfolding fold_below
fold_step n s a = rw add-one

-- a property that each step keeps holds after the fold
pub fold_keeps : {A : Type 0} (P : A → Type 0) (n : ℕ) (s : ℕ → A → A) (a : A) → ((k : ℕ) (x : A) → k < n → P x → P (s k x)) → P a → P (fold_below n s a)
unfolding fold_below
fold_keeps P zero s a f h = h
fold_keeps P (suc n) s a f h = f n (fold_below n s a) (omega arith) (fold_keeps P n s a (λ k x l. f k x (omega arith)) h)

-- runs of writes

-- x is one of the n places from b on
abbrev pub within : ℕ → ℕ → ℕ → Bool
within b n x = leb b x && ltb x (b + n)

pub within_yes : (b n x : ℕ) → b ≤ x → x < b + n → within b n x ≡ true
within_yes b n x h k = rw (le-leb b x h, lt-ltb x (b + n) k)

pub within_low : (b n x : ℕ) → x < b → within b n x ≡ false
within_low b n x h = rw (lt-leb b x h)

pub within_high : (b n x : ℕ) → b + n ≤ x → within b n x ≡ false
within_high b n x h = rw (le-ltb x (b + n) h) (and-false (leb b x))

pub within_true : (b n x : ℕ) → within b n x ≡ true → (b ≤ x) × (x < b + n)
within_true b n x e =
    let p = (and_iff (leb b x) (ltb x (b + n))).0 (is_true _ e) in
    (leb-true b x (of_true _ p.0), ltb-true x (b + n) (of_true _ p.1))

pub within_false : (b n x : ℕ) → within b n x ≡ false → (x < b) ⊎ (b + n ≤ x)
within_false b n x e = go (leb b x) (ltb x (b + n)) refl refl e
  where
    go : (p q : Bool) → leb b x ≡ p → ltb x (b + n) ≡ q → (p && q) ≡ false → (x < b) ⊎ (b + n ≤ x)
    go true true f g h = inr (ltb-false x (b + n) (g ∙ h))
    go true false f g h = inr (ltb-false x (b + n) g)
    go false q f g h = inl (leb-false b x f)

-- one more place at the end
within_more : (b n x : ℕ) → within b (suc n) x ≡ cond (eqb x (b + n)) true (within b n x)
within_more b n x = go (eqb x (b + n)) refl (leb b x) refl
  where
    go : (p : Bool) → eqb x (b + n) ≡ p → (q : Bool) → leb b x ≡ q → (q && ltb x (b + suc n)) ≡ cond p true (q && ltb x (b + n))
    go true e true f = lt-ltb x (b + suc n) (omega (arith, eqb-true x (b + n) e))
    go true e false f = absurd (omega (arith, eqb-true x (b + n) e, leb-false b x f))
    go false e true f = same (ltb x (b + n)) refl
      where
        same : (r : Bool) → ltb x (b + n) ≡ r → ltb x (b + suc n) ≡ r
        same true g = lt-ltb x (b + suc n) (omega (arith, ltb-true x (b + n) g))
        same false g = le-ltb x (b + suc n) (omega (arith, ltb-false x (b + n) g, eqb-false x (b + n) e))
    go false e false f = refl

pub run_none : {A Y : Type 0} (write : ℕ → Y → A → A) (from : ℕ) (value : ℕ → Y) (a : A) → write_run write from 0 value a ≡ a
unfolding write_run fold_below
run_none write from value a = refl

pub run_step : {A Y : Type 0} (write : ℕ → Y → A → A) (from n : ℕ) (value : ℕ → Y) (a : A) → write_run write from (n + 1) value a ≡ write (from + n) (value (from + n)) (write_run write from n value a)
unfolding write_run
run_step write from n value a = fold_step n (λ k. write (from + k) (value (from + k))) a

-- What is read after a run of writes. `Ok` is what the writes need and keep, `read` reads a column at a place, and `law` says what one write
-- leaves there: where the write touches this column (`on`), the part `col` of the value.
module _ {A X Y : Type 0} (Ok : A → Type 0) (N : ℕ) (read : A → ℕ → X) (write : ℕ → Y → A → A) (on : Bool) (col : Y → X)
    (keep : (i : ℕ) (y : Y) (a : A) → i < N → Ok a → Ok (write i y a))
    (law : (i : ℕ) (y : Y) (a : A) → i < N → Ok a → (x : ℕ) → read (write i y a) x ≡ cond (on && eqb x i) (col y) (read a x)) where
  pub run_ok : (b n : ℕ) (g : ℕ → Y) (a : A) → b + n ≤ N → Ok a → Ok (write_run write b n g a)
  unfolding write_run fold_below
  run_ok b zero g a h k = k
  run_ok b (suc n) g a h k = keep (b + n) (g (b + n)) _ (omega arith) (run_ok b n g a (omega arith) k)

  pub run_read : (b n : ℕ) (g : ℕ → Y) (a : A) → b + n ≤ N → Ok a → (x : ℕ) →
      read (write_run write b n g a) x ≡ cond (on && within b n x) (col (g x)) (read a x)
  unfolding write_run fold_below
  run_read b zero g a h k x = rw (none (leb b x) refl)
    where
      none : (q : Bool) → leb b x ≡ q → (on && (q && ltb x (b + 0))) ≡ false
      none true e = rw (le-ltb x (b + 0) (omega (arith, leb-true b x e))) (and-false on)
      none false e = and-false on
  run_read b (suc n) g a h k x = rw (
    law (b + n) (g (b + n)) (write_run write b n g a) (omega arith) (run_ok b n g a (omega arith) k) x,
    run_read b n g a (omega arith) k x,
    within_more b n x,
  ) (go on (eqb x (b + n)) refl)
    where
      go : (o p : Bool) → eqb x (b + n) ≡ p →
          cond (o && p) (col (g (b + n))) (cond (o && within b n x) (col (g x)) (read a x)) ≡ cond (o && cond p true (within b n x)) (col (g x)) (read a x)
      go true true e = ap (λ i. col (g i)) (sym (eqb-true x (b + n) e))
      go true false e = refl
      go false p e = refl

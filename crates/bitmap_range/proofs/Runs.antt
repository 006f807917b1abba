-- Laws of runs of writes and of counts: a run in two pieces, runs of equal values, a run at other places, a count in two pieces.
use Prim.Native.Nat.{ℕ, zero, suc, ◌+◌, ◌-◌, ◌<◌, ◌≤◌}
use mathlib.Core.Bool.{Bool}
use mathlib.Core.Path.{◌≡◌, refl}
use native.Mathlib.Omega.{arith}
use native.Mathlib.Nat.{add-zero, add-suc, add_assoc}
use Rattle.model.specs.Bounded.{write_run, fold_below, count_below}

-- a run of n and m places is a run of n and then one of m
pub run_append : {A Y : Type 0} (write : ℕ → Y → A → A) (b n m : ℕ) (g : ℕ → Y) (a : A) →
    write_run write b (n + m) g a ≡ write_run write (b + n) m g (write_run write b n g a)
unfolding write_run fold_below
run_append write b n zero g a = rw add-zero
run_append write b n (suc m) g a = rw (add-suc, run_append write b n m g a, add_assoc b n m)

-- runs whose values agree at the places
pub writes_cong : {A Y : Type 0} (write : ℕ → Y → A → A) (b n : ℕ) (g h : ℕ → Y) (a : A) → ((i : ℕ) → b ≤ i → i < b + n → g i ≡ h i) →
    write_run write b n g a ≡ write_run write b n h a
unfolding write_run fold_below
writes_cong write b zero g h a e = refl
writes_cong write b (suc n) g h a e = rw (writes_cong write b n g h a (λ i l k. e i l (omega arith)), e (b + n) (omega arith) (omega arith))

-- a run of writes each of which is another write, c places on
pub run_shift : {A Y : Type 0} (put write : ℕ → Y → A → A) (c : ℕ) → ((i : ℕ) (y : Y) (a : A) → put i y a ≡ write (c + i) y a) →
    (b n : ℕ) (g : ℕ → Y) (a : A) → write_run put b n g a ≡ write_run write (c + b) n (λ i. g (i - c)) a
unfolding write_run fold_below
run_shift put write c e b zero g a = refl
run_shift put write c e b (suc n) g a =
    let p : ((c + b) + n) - c ≡ b + n = omega arith in
    rw (e (b + n) (g (b + n)), run_shift put write c e b n g a, p, add_assoc c b n)

-- a count below n + m, in two pieces
pub count_append : (n m : ℕ) (t : ℕ → Bool) → count_below (n + m) t ≡ count_below n t + count_below m (λ k. t (n + k))
unfolding count_below
count_append n zero t = rw (add-zero n, add-zero (count_below n t))
count_append n (suc m) t = rw (add-suc, count_append n m t, add_assoc)

-- Laws of words: what is read after one word was set, and after a run of them.
use Prim.Native.Nat.{ℕ, ◌+◌, ◌<◌, ◌≤◌}
use mathlib.Core.Bool.{Bool, true, false, cond}
use mathlib.Core.List.{List}
use mathlib.Core.Path.{◌≡◌, refl}
use native.Mathlib.Omega.{arith}
use lib.ListN.{get_or, set, length, length-set}
use lib.Seq.{get_or-set_same, get_or-set_other}
use lib.Dec.{eqb}
use borrow.Author.Tests.{eqb-true, eqb-false}
use Rattle.model.specs.Memory.{put_words}
use Rattle.model.proofs.Bounded.{within, run_ok, run_read}

-- word x after word i was set
pub set_at : (l : List ℕ) (i v : ℕ) → i < length l → (x : ℕ) → get_or (set l i v) x 0 ≡ cond (eqb x i) v (get_or l x 0)
set_at l i v h x = go (eqb x i) refl
  where
    go : (b : Bool) → eqb x i ≡ b → get_or (set l i v) x 0 ≡ cond b v (get_or l x 0)
    go true p = let e : x ≡ i = eqb-true x i p in rw (e, get_or-set_same l i v 0 h)
    go false p = get_or-set_other l i x v 0 (eqb-false x i p)

-- a list of n words
abbrev pub Long : ℕ → List ℕ → Type 0
Long n l = length l ≡ n

-- word x after the n words from b on were set
module _ (N : ℕ) (b n : ℕ) (g : ℕ → ℕ) (l : List ℕ) (h : b + n ≤ N) (k : Long N l) where
  pub words_length : Long N (put_words b n g l)
  words_length =
      run_ok (Long N) N (λ l x. get_or l x 0) (λ i v l. set l i v) true (λ v. v) (λ i v a _ o. simp length-set o)
      (λ i v a q o x. set_at a i v (omega (arith, o)) x) b n g l h k

  pub words_at_lem : (x : ℕ) → get_or (put_words b n g l) x 0 ≡ cond (within b n x) (g x) (get_or l x 0)
  words_at_lem =
      run_read (Long N) N (λ l x. get_or l x 0) (λ i v l. set l i v) true (λ v. v) (λ i v a _ o. simp length-set o)
      (λ i v a q o x. set_at a i v (omega (arith, o)) x) b n g l h k

-- A run of words that all get one value, as a list: what stands before it, the value so many times, what stands behind it.
use Prim.Native.Nat.{ℕ, zero, suc, ◌+◌, ◌-◌, ◌≤◌, ◌<◌}
use mathlib.Core.List.{List, ◌∷◌, ◌++◌, append_assoc}
use mathlib.Core.Path.{◌≡◌, refl, sym, ◌∙◌, ap}
use native.Mathlib.Nat.{add-zero, add-suc}
use native.Mathlib.Omega.{arith}
use lib.ListN.{length, get_or, set, take, drop, replicate, take-append-drop, length-append, length-take, length-replicate}
use lib.Seq.{drop-cons, set-append_seam}
use borrow.Rule.Slice.PartMut.{mid_of, put_mid, mid_len, Post-is}
use Rattle.model.specs.Bounded.{write_run, fold_below}
use Rattle.model.specs.Memory.{put_words}

-- the value once more, in front of a list
one_more : (n v : ℕ) (l : List ℕ) → replicate n v ++ (v ∷ l) ≡ replicate (suc n) v ++ l
one_more zero v l = refl
one_more (suc n) v l = ap (λ r. v ∷ r) (one_more n v l)

-- the word behind a run gets the value too
longer : (w n v : ℕ) (l : List ℕ) → w + n < length l →
    set (take w l ++ (replicate n v ++ drop (w + n) l)) (w + n) v ≡ take w l ++ (replicate (suc n) v ++ drop (suc (w + n)) l)
longer w n v l h =
    let front = take w l ++ replicate n v in
    let e : length front ≡ w + n = simp (length-append, length-take, length-replicate) (omega arith) in
    rw (drop-cons l (w + n) 0 h, ← append_assoc (take w l) (replicate n v) (get_or l (w + n) 0 ∷ drop (suc (w + n)) l))
    (rw e at (set-append_seam front (get_or l (w + n) 0) (drop (suc (w + n)) l) v) ∙ append_assoc (take w l) (replicate n v) _ ∙ ap (λ r. take w l ++ r) (one_more n v _))

pub constant_run : (w n v : ℕ) (l : List ℕ) → w + n ≤ length l → put_words w n (λ x. v) l ≡ take w l ++ (replicate n v ++ drop (w + n) l)
unfolding write_run fold_below
constant_run w zero v l h = rw add-zero (sym (take-append-drop w l))
constant_run w (suc n) v l h = rw (constant_run w n v l (omega arith), add-suc w n) (longer w n v l (omega arith))

-- a part of a list that is written back as the value so many times is such a run
pub part_filled : (w n v : ℕ) (l : List ℕ) {ys : List ℕ} → w + n ≤ length l → ys ≡ replicate (length (mid_of w ((w + n) - w) l)) v →
    put_mid w ((w + n) - w) l ys ≡ put_words w n (λ x. v) l
part_filled w n v l h e =
    let k : (w + n) - w ≡ n = omega arith in
    rw (constant_run w n v l h, e, mid_len w (w + n) l h, Post-is w (w + n) l (omega arith), k)

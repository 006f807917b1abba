-- What a start leaves of the roots: the stacks' states, one by one.
use Prim.Native.Nat.{ℕ, ◌+◌, ◌-◌, ◌<◌, ◌≤◌}
use mathlib.Core.Bool.{cond, Bool, true, false}
use mathlib.Core.List.{List}
use mathlib.Core.Path.{◌≡◌, refl}
use native.Mathlib.Omega.{arith}
use lib.Dec.{eqb}
use lib.ListN.{length, get_or, take, drop}
use borrow.Rule.Slice.PartMut.{put_mid}
use Rattle.std.proofs.lemmas.List.{places}
use Rattle.std.proofs.lemmas.Grind.{same_number_lists}
use Rattle.model.specs.Memory.{closed, gray_state, put_words}
use Rattle.model.proofs.Words.{words_at_lem, words_length}
use Rattle.model.proofs.Bounded.{within, within_true, within_false}
use Rattle.std.proofs.lemmas.Grind.{common_steps}
use mathlib.Core.Logic.{inl, inr}

-- what a state becomes: an open stack's gray
abbrev pub grayed_state : ℕ → ℕ
grayed_state s = cond (eqb s closed) closed gray_state

-- what a part's values, changed one by one, leave of the list that it is part of
pub part_changed : (f : ℕ → ℕ) (w n : ℕ) (l ys : List ℕ) → w + n ≤ length l → length ys ≡ n → ((k : ℕ) → k < n → get_or ys k 0 ≡ f (get_or (take n (drop w l)) k 0)) →
    put_mid w n l ys ≡ put_words w n (λ i. f (get_or l i 0)) l
part_changed f w n l ys h e g =
    let value : ℕ → ℕ = λ i. f (get_or l i 0) in
    let long = words_length (length l) w n value l h refl in
    same_number_lists _ _ (grind (arith, places, common_steps, long)) (λ k i. rw (words_at_lem (length l) w n value l h refl k) (go k (within w n k) refl))
  where
    go : (k : ℕ) (b : Bool) → within w n k ≡ b → get_or (put_mid w n l ys) k 0 ≡ cond b (f (get_or l k 0)) (get_or l k 0)
    go k true q =
        let x = within_true w n k q in
        let old : get_or (take n (drop w l)) (k - w) 0 ≡ get_or l k 0 = grind (arith, places, common_steps) in
        let v : get_or ys (k - w) 0 ≡ f (get_or l k 0) = rw old at (g (k - w) (omega arith)) in
        grind (arith, places, common_steps)
    go k false q = elim (within_false w n k q) [ inl x ↦ grind (arith, places, common_steps) | inr x ↦ grind (arith, places, common_steps) ]

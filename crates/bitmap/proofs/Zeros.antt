-- Words that are 0: one more, and four whose bits together are none.
use Prim.Native.Nat.{ℕ, ◌+◌}
use mathlib.Core.Bool.{Bool, true, false}
use mathlib.Core.List.{List}
use mathlib.Core.Path.{◌≡◌, refl}
use native.Mathlib.Omega.{arith}
use lib.Bits.{bit_or, or_add_and, and_le_l, and_le_r}
use lib.Dec.{ltb}
use lib.ListN.{get_or}
use borrow.Author.Tests.{ltb-true, ltb-false}
use Rattle.bitmap.specs.Search.{Zeros}

pub zeros_more : (ws : List ℕ) (from at next : ℕ) → next ≡ at + 1 → Zeros ws from at → get_or ws at 0 ≡ 0 → Zeros ws from next
zeros_more ws from at next n z e k l m = go (ltb k at) refl
  where
    go : (b : Bool) → ltb k at ≡ b → get_or ws k 0 ≡ 0
    go true p = z k l (ltb-true k at p)
    go false p = let i : at ≡ k = omega (arith, ltb-false k at p) in rw i at e

none_of : (a b : ℕ) → bit_or a b ≡ 0 → (a ≡ 0) × (b ≡ 0)
none_of a b e = let s = or_add_and a b in (omega (arith, s, and_le_l a b, and_le_r a b), omega (arith, s, and_le_l a b, and_le_r a b))

pub four_more : (ws : List ℕ) (from at : ℕ) → Zeros ws from at →
    bit_or (bit_or (bit_or (get_or ws at 0) (get_or ws (at + 1) 0)) (get_or ws (at + 2) 0)) (get_or ws (at + 3) 0) ≡ 0 → Zeros ws from (at + 4)
four_more ws from at z e =
    let three = none_of _ (get_or ws (at + 3) 0) e in
    let two = none_of _ (get_or ws (at + 2) 0) three.0 in
    let one = none_of (get_or ws at 0) (get_or ws (at + 1) 0) two.0 in
    let first = zeros_more ws from at (at + 1) (omega arith) z one.0 in
    let second = zeros_more ws from (at + 1) (at + 2) (omega arith) first one.1 in
    let third = zeros_more ws from (at + 2) (at + 3) (omega arith) second two.1 in
    zeros_more ws from (at + 3) (at + 4) (omega arith) third three.1

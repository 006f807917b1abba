-- `pointers_ok`: the bits that break a rule, joined, are none.
use Prim.Native.Nat.{ℕ, zero, suc, ◌-◌, ◌*◌, ◌%◌, ◌^◌, ◌<◌}
use mathlib.Core.Bool.{Bool, true, false, not, cond, ◌||◌, ◌&&◌}
use mathlib.Core.Path.{◌≡◌, refl, ◌∙◌}
use native.Mathlib.Omega.{arith}
use lib.Bits.{bit_or, bit_and, or_lt, and_le_r}
use lib.Dec.{eqb, eqb-suc-zero, eqb-zero-suc}
use Rattle.model.proofs.Bitmaps.{bit_pow}
use Rattle.model.specs.Bounded.{all_below}
use Rattle.audit_blocks.specs.Block.{on, follows, pointer_rule}
use Rattle.audit_blocks.proofs.Masks.{on_or, on_and, on_not, on_shift, zero_word, masked_fits, not_or, not_and_not, all_cong}
use borrow.Author.Rules.{rules}
use Rattle.audit_blocks.proofs.pointers_ok.Goals as goal

module _ (a q starts inside before : ℕ) (ha : a < 2 ^ 64) (hq : q < 2 ^ 64) (hs : starts < 2 ^ 64) (hi : inside < 2 ^ 64) where
  abbrev after : ℕ
  after = bit_or (q * 2 ^ 1 % 2 ^ 64) (bit_and before 1)

  abbrev bad : ℕ
  bad =
      bit_or
      (bit_or (bit_or (bit_and q ((2 ^ 64 - 1) - inside)) (bit_and a ((2 ^ 64 - 1) - q))) (bit_and (bit_and q starts) ((2 ^ 64 - 1) - a)))
      (bit_and (bit_and q ((2 ^ 64 - 1) - starts)) ((2 ^ 64 - 1) - after))

  after_fits : after < 2 ^ 64
  after_fits = or_lt 64 (q * 2 ^ 1 % 2 ^ 64) (bit_and before 1) (omega arith) (omega (arith, and_le_r before 1))

  -- the bits after a pointer bit
  after_is : (j : ℕ) → j < 64 → on after j ≡ follows q before j
  after_is j l = rw (on_or (q * 2 ^ 1 % 2 ^ 64) (bit_and before 1) j, on_shift q j l, on_and before 1 j) (go j)
    where
      go : (j : ℕ) → (cond (eqb j 0) false (on q (j - 1)) || (on before j && on 1 j)) ≡ follows q before j
      go zero = rw (bit_pow 0 0) (last (on before 0))
        where
          last : (b : Bool) → (b && true) ≡ b
          last true = refl
          last false = refl
      go (suc j) = rw (eqb-suc-zero, bit_pow 0 (suc j), eqb-zero-suc) (last (on q (suc j - 1)) (on before (suc j)))
        where
          last : (x b : Bool) → (x || (b && false)) ≡ x
          last true b = refl
          last false true = refl
          last false false = refl

  kept : eqb bad 0 ≡ all_below 64 (pointer_rule a q starts inside before)
  unfolding pointer_rule
  kept =
      zero_word bad (or_lt 64 _ _ (or_lt 64 _ _ (or_lt 64 _ _ (masked_fits q _ hq) (masked_fits a _ ha)) (masked_fits _ _ (masked_fits q _ hq))) (masked_fits _ _ (masked_fits q _ hq)))
      ∙ all_cong 64 (λ j. not (on bad j)) (pointer_rule a q starts inside before)
      (λ j l. simp (
        on_or (bit_or (bit_or (bit_and q ((2 ^ 64 - 1) - inside)) (bit_and a ((2 ^ 64 - 1) - q))) (bit_and (bit_and q starts) ((2 ^ 64 - 1) - a))) (bit_and (bit_and q ((2 ^ 64 - 1) - starts)) ((2 ^ 64 - 1) - after)) j,
        on_or (bit_or (bit_and q ((2 ^ 64 - 1) - inside)) (bit_and a ((2 ^ 64 - 1) - q))) (bit_and (bit_and q starts) ((2 ^ 64 - 1) - a)) j,
        on_or (bit_and q ((2 ^ 64 - 1) - inside)) (bit_and a ((2 ^ 64 - 1) - q)) j,
        on_and,
        on_not inside j hi l,
        on_not q j hq l,
        on_not a j ha l,
        on_not starts j hs l,
        on_not after j after_fits l,
        after_is j l,
        not_or,
        not_and_not,
      ))

pub returns : goal.returns
returns c = kept c.args.a c.args.q c.args.starts c.args.inside c.args.before (search rules) (search rules) (search rules) (search rules)

-- `colours_ok`: the bits that break a rule, joined, are none.
use Prim.Native.Nat.{ℕ, ◌-◌, ◌^◌, ◌<◌}
use mathlib.Core.Bool.{not}
use mathlib.Core.Path.{◌≡◌, ◌∙◌}
use lib.Bits.{bit_or, bit_and, or_lt}
use lib.Dec.{eqb}
use Rattle.model.specs.Bounded.{all_below}
use Rattle.audit_blocks.specs.Block.{on, rule}
use Rattle.audit_blocks.proofs.Masks.{on_or, on_and, on_not, zero_word, masked_fits, not_or, not_and_not, all_cong}
use borrow.Author.Rules.{rules}
use Rattle.audit_blocks.proofs.colours_ok.Goals as goal

module _ (a m g starts marks grays : ℕ) (ha : a < 2 ^ 64) (hm : m < 2 ^ 64) (hg : g < 2 ^ 64) (hs : starts < 2 ^ 64) where
  abbrev bad : ℕ
  bad = bit_or (bit_or (bit_and a ((2 ^ 64 - 1) - starts)) (bit_and m ((2 ^ 64 - 1) - bit_and a marks))) (bit_and g ((2 ^ 64 - 1) - bit_and m grays))

  kept : eqb bad 0 ≡ all_below 64 (rule a m g starts marks grays)
  unfolding rule
  kept =
      zero_word bad (or_lt 64 _ _ (or_lt 64 _ _ (masked_fits a _ ha) (masked_fits m _ hm)) (masked_fits g _ hg))
      ∙ all_cong 64 (λ j. not (on bad j)) (rule a m g starts marks grays) (λ j l. simp (on_or, on_and, on_not starts j hs l, on_not (bit_and a marks) j (masked_fits a marks ha) l, on_not (bit_and m grays) j (masked_fits m grays hm) l, not_or, not_and_not))

pub returns : goal.returns
returns c = kept c.args.a c.args.m c.args.g c.args.starts c.args.marks c.args.grays (search rules) (search rules) (search rules) (search rules)

-- `bitmap_range::put_bits` meets its contract. Both ways out are one law, at the test's two values.
use Prim.Native.Nat.{ℕ, ◌+◌, ◌-◌, ◌*◌, ◌/◌, ◌%◌, ◌^◌, ◌≤◌, ◌<◌}
use mathlib.Core.Bool.{Bool, true, false, cond}
use mathlib.Core.Path.{◌≡◌, sym, ◌∙◌, ap}
use native.Mathlib.Omega.{arith}
use lib.Bits.{bit_or, bit_and}
use Rattle.model.specs.Bounded.{write_run}
use Rattle.model.specs.Bitmaps.{with_bit_of}
use Rattle.bitmap_range.proofs.Ranges.{mask_of, mask_shifted, put_mask}
use Rattle.bitmap_range.proofs.put_bits.Goals as goal

-- the code's mask, put over the word or taken away
put : (on p : Bool) → on ≡ p → (low k w : ℕ) → low + k ≤ 64 → w < 2 ^ 64 →
    let mask = ((2 ^ 64 - 1) / 2 ^ (64 - k) * 2 ^ low) % 2 ^ 64 in
    cond p (bit_or w mask) (bit_and w ((2 ^ 64 - 1) - mask)) ≡ write_run with_bit_of low k (λ j. on) w
put on p e low k w h f =
    rw (mask_shifted low k h) (ap (λ b. cond b (bit_or w (mask_of low k)) (bit_and w ((2 ^ 64 - 1) - mask_of low k))) (sym e) ∙ put_mask on low k w h f)

pub returns-then-on : goal.returns-then-on
returns-then-on c = let a = c.args in put a.on true c.if-on.true a.low a.k a.w (omega arith) (omega arith)

pub returns-else-on : goal.returns-else-on
returns-else-on c = let a = c.args in put a.on false c.if-on.false a.low a.k a.w (omega arith) (omega arith)

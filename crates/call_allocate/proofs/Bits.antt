-- The bits of a new record, as the code sets them: one bit, a range of bits, one bit. x, y and z are the bitmaps after each.
use Prim.Native.Nat.{ℕ, ◌+◌, ◌*◌}
use mathlib.Core.Bool.{true}
use mathlib.Core.List.{List}
use mathlib.Core.Logic.{◌≢◌}
use mathlib.Core.Path.{◌≡◌}
use borrow.Author.Tests.{eq-eqb, ne_eqb}
use Rattle.model.specs.Bounded.{write_run}
use Rattle.model.specs.Memory.{Heap, words, phase, mark, marked_part}
use Rattle.model.specs.Bitmaps.{place, with_bit, put_bit, pointer}
use Rattle.model.specs.Allocate.{new_bits}
use Rattle.bitmap_range.proofs.Parts.{part_constant}

module _ (h : Heap) (w q : ℕ) {x y : List ℕ} (e : x ≡ with_bit w true h.bits) (f : y ≡ write_run with_bit (place (words h) pointer w) q (λ i. true) x) where
  pub bits_marked : phase h ≡ mark → {z : List ℕ} → z ≡ with_bit (marked_part * words h + w) true y → z ≡ new_bits h w q
  unfolding new_bits put_bit
  bits_marked m g = rw (g, f, e, eq-eqb _ _ m, part_constant (words h) pointer w q true (with_bit w true h.bits))

  pub bits_plain : phase h ≢ mark → y ≡ new_bits h w q
  unfolding new_bits put_bit
  bits_plain d = rw (f, e, ne_eqb _ _ d, part_constant (words h) pointer w q true (with_bit w true h.bits))

-- What the audit says of the bits: that one bit of a range is set, and its clauses about all of them.
use Rattle.std.specs.Prelude.{ℕ, ◌<◌, ◌≤◌, List, T}
use Rattle.model.specs.Bitmaps.{bit_at}
use Rattle.model.specs.Facts.{Bits, Phases, Occupied}

-- a bit is set from `from` on and before `to`
abbrev pub SetBetween : List ℕ → ℕ → ℕ → Type 0
SetBetween b from to = (w : ℕ) × (from ≤ w) × (w < to) × T (bit_at b w)

-- the audit's clauses about bits
pub record GoodBits (P phase : ℕ) (t b : List ℕ) : Type 0 where
  pub rules : Bits P t b
  pub phases : Phases P phase t b
  pub occupied : Occupied P t b

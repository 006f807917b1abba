-- The audit's rules for the bits of one arena word of a block, from what is known of the span that it lies in. A block has 64 words; each of its
-- masks and bitmap words has one bit for each of them.
use Rattle.std.specs.Prelude.{ℕ, ◌-◌, Bool, ◌&&◌, not, cond, ◌==◌}
use Rattle.model.specs.Bounded.{◌implies◌}
use Rattle.model.specs.Bitmaps.{bit_of}

-- bit j of a word is on
abbrev pub on : ℕ → ℕ → Bool
on x j = bit_of x j == 1

-- word j: allocated only at elements; marked only where allocated and where marks may stand; gray only where marked and where gray may stand
unfoldable pub rule : ℕ → ℕ → ℕ → ℕ → ℕ → ℕ → ℕ → Bool
rule a m g starts marks grays j =
    (on a j implies on starts j) && (on m j implies (on a j && on marks j)) && (on g j implies (on m j && on grays j))

-- the word before word j of the block holds a pointer
abbrev pub follows : ℕ → ℕ → ℕ → Bool
follows q before j = cond (j == 0) (on before 0) (on q (j - 1))

-- word j of a scan span: a pointer lies in an element; an allocated element begins with one; one at an element's start is allocated,
-- one elsewhere follows another
unfoldable pub pointer_rule : ℕ → ℕ → ℕ → ℕ → ℕ → ℕ → Bool
pointer_rule a q starts inside before j =
    (on q j implies on inside j) && (on a j implies on q j)
    && (on q j && on starts j implies on a j) && (on q j && not (on starts j) implies follows q before j)

-- `classes::starts` meets its contract. The table's rule is one test that antt computes over all its rows and bits; from 64 words on only the element
-- itself starts.
use Prim.Native.Nat.{ℕ, zero, suc, ◌+◌, ◌*◌, ◌%◌, ◌^◌, ◌<◌}
use mathlib.Core.Bool.{true, cond}
use mathlib.Core.List.{List, [], ◌∷◌}
use mathlib.Core.Path.{◌≡◌, refl, ◌∙◌}
use native.Mathlib.Nat.{mod-eq_of_lt}
use native.Mathlib.Omega.{arith}
use lib.Dec.{eqb, eqb-zero-suc, eqb-suc-zero}
use lib.ListN.{get_or}
use borrow.Author.Tests.{eqb-true}
use Rattle.std.specs.Prelude.{◌==◌}
use Rattle.model.specs.Bounded.{all_below, fold_below}
use Rattle.model.specs.Memory.{word_bits}
use Rattle.model.specs.Bitmaps.{bit_of}
use Rattle.model.proofs.Bounded.{all_at}
use Rattle.model.proofs.Bitmaps.{bit_pow}
use Rattle.classes.proofs.starts.Goals as goal

-- 1 where an element of s words starts, j words after another
starting : ℕ → ℕ → ℕ
starting s j = cond (eqb (j % s) 0) 1 0

-- the masks of the sizes below n, before those of a list
masks : ℕ → List ℕ → List ℕ
masks zero l = l
masks (suc s) l = masks s (fold_below word_bits (λ j m. m + starting s j * 2 ^ j) 0 ∷ l)

masks_tests : all_below word_bits (λ s. all_below word_bits (λ j. bit_of (get_or (masks word_bits []) s 0) j == starting s j)) ≡ true
unfolding masks starting all_below fold_below bit_of
masks_tests = refl

mask_at : (s : ℕ) → s < word_bits → (j : ℕ) → j < word_bits → bit_of (get_or (masks word_bits []) s 0) j ≡ cond (eqb (j % s) 0) 1 0
unfolding starting
mask_at s h j l = eqb-true _ _ (all_at word_bits (λ j. bit_of (get_or (masks word_bits []) s 0) j == starting s j) (all_at word_bits (λ s. all_below word_bits (λ j. bit_of (get_or (masks word_bits []) s 0) j == starting s j)) masks_tests s h) j l)

from_zero : (j : ℕ) → eqb 0 j ≡ eqb j 0
from_zero zero = refl
from_zero (suc j) = rw (eqb-zero-suc, eqb-suc-zero)

pub returns-then-size-lt-WORD_BITS : goal.returns-then-size-lt-WORD_BITS
unfolding masks starting fold_below
returns-then-size-lt-WORD_BITS c = mask_at c.args.size (omega arith)

pub returns-else-size-lt-WORD_BITS : goal.returns-else-size-lt-WORD_BITS
returns-else-size-lt-WORD_BITS c j l =
    let e : j % c.args.size ≡ j = mod-eq_of_lt (omega arith) in
    bit_pow 0 j ∙ rw (from_zero j, e)

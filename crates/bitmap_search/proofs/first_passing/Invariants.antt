-- The invariant: the mask is that of word number `at`, and no bit from `from` on passes in the words before it, by any test that the words give.
use Rattle.std.proofs.Common.{ℕ, Bool, ◌*◌}
use Rattle.model.specs.Memory.{word_bits}
use Rattle.bitmap.proofs.Scan.{None}
use Rattle.bitmap.proofs.Search.{Masked, pass_from}
use Rattle.bitmap_search.specs.Search.{GivesWords}
use Rattle.bitmap_search.proofs.first_passing.Given as goal

abbrev pub invariant-loop-at : goal.invariant-loop-at
invariant-loop-at g l =
    Masked l.from l.at l.mask × ((t : ℕ → Bool) → GivesWords l.to t (λ at w. goal.F-post g l.word at w) → None (pass_from t l.from) (l.at * word_bits))

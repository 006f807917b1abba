-- The word of `from` is asked first, masked; where it has no bit, the first word after it that has one. No bit from `from` on lies in the words before.
use Prim.Native.Nat.{ℕ, ◌+◌, ◌-◌, ◌*◌, ◌/◌, ◌%◌, ◌^◌, ◌≤◌}
use mathlib.Core.List.{List}
use mathlib.Core.Path.{◌∙◌}
use native.Mathlib.Omega.{arith}
use lib.Bits.{bit_and}
use lib.Count.{count_trailing_zeros}
use lib.ListN.{get_or}
use Rattle.model.specs.Bitmaps.{bit_at}
use Rattle.bitmap.specs.Search.{Zeros}
use Rattle.bitmap.proofs.Bits.{trailing_some}
use Rattle.bitmap.proofs.Scan.{None, Passed, whole_word}
use Rattle.bitmap.proofs.Search.{pass_from, masked_first, none_passed, none_later, scan_set, scan_later, found_bit, none_found}
use Rattle.bitmap.proofs.first_set.Goals as goal

-- the first word
head_word : (ws : List ℕ) (from : ℕ) →
    Passed (pass_from (bit_at ws) from) (from / 64) (count_trailing_zeros 64 (bit_and (get_or ws (from / 64) 0) ((2 ^ 64 - 1) * 2 ^ (from % 64) % 2 ^ 64)))
head_word ws from = scan_set ws (masked_first from) (none_passed (bit_at ws) from)

-- .. has no bit, nor have the words before word number `at`
none_up_to : (ws : List ℕ) (from at : ℕ) → 64 ≤ count_trailing_zeros 64 (bit_and (get_or ws (from / 64) 0) ((2 ^ 64 - 1) * 2 ^ (from % 64) % 2 ^ 64)) →
    Zeros ws (from / 64 + 1) at → None (pass_from (bit_at ws) from) (at * 64)
none_up_to ws from at h z = none_later ws from (whole_word (head_word ws from) h) z

pub returns-then-head-lt-WORD_BITS : goal.returns-then-head-lt-WORD_BITS
returns-then-head-lt-WORD_BITS c =
    let a = c.args in
    c.then_some.ensures ∙ found_bit (bit_at a.ws.now) a.from a.to c.requires.0 (head_word a.ws.now a.from) (omega arith)

pub returns-in_err-at : goal.returns-in_err-at
returns-in_err-at c =
    let a = c.args in
    let end = c.words_below-end in
    c.from_residual.ensures ∙ none_found (bit_at a.ws.now) a.from a.to c.requires.0 (end.result * 64)
    (none_up_to a.ws.now a.from end.result (omega arith) c.in_err-at.ensures) (omega (arith, end.ensures))

pub returns : goal.returns
returns c =
    let a = c.args in
    let at = c.in_ok-at.at in
    let word = c.in_ok-at.ensures in
    let some = trailing_some _ (c.type_inv.ws at).fits word.holds in
    c.then_some-2.ensures ∙ found_bit (bit_at a.ws.now) a.from a.to c.requires.0
    (scan_later a.ws.now (omega (arith, word.begun)) (none_up_to a.ws.now a.from at (omega arith) word.before)) some

use Rattle.audit_words.proofs.Blocks.{taken_none, taken_one, taken_all, low, lowest_on, higher}
use Rattle.bitmap.proofs.Bits.{one_up}
use Rattle.model.specs.Bitmaps.{with_bit_of}
use Rattle.model.proofs.Answers.{yes, no}
use Rattle.model.proofs.Bitmaps.{with_bit_fits}
use lib.Count.{count_trailing_zeros}
use mathlib.Core.Bool.{false}
use native.Mathlib.Omega.{arith}
use borrow.Author.Rules.{rules}
use Rattle.audit_words.proofs.Words.block_ok.Goals as goal

pub loop-left-init : goal.loop-left-init
loop-left-init c = (search rules, search rules, taken_none _ _ _ _ _ _)

pub overflow_cast-j : goal.overflow_cast-j
overflow_cast-j c = let l = low _ c.loop-left.invariant.1 c.loop-left-test.true in search rules

pub overflow_add-value : goal.overflow_add-value
overflow_add-value c = let l = low _ c.loop-left.invariant.1 c.loop-left-test.true in omega arith

pub overflow_shl-left : goal.overflow_shl-left
overflow_shl-left c = let l = low _ c.loop-left.invariant.1 c.loop-left-test.true in omega arith

pub returns-then-not-is_reference : goal.returns-then-not-is_reference
returns-then-not-is_reference c =
    let l = c.loop-left in
    let some = c.loop-left-test.true in
    (λ c. absurd c, λ h. no c.is_reference.result c.is_reference.ensures c.if-not-is_reference.true (rw l.invariant.0 (h _ (low _ l.invariant.1 some) (l.invariant.2.among _ (low _ l.invariant.1 some) (lowest_on _ l.invariant.1 some)))))

pub loop-left-smaller : goal.loop-left-smaller
unfolding with_bit_of
loop-left-smaller c =
    let l = c.loop-left in
    let some = c.loop-left-test.true in
    let z = low _ l.invariant.1 some in
    rw (one_up (count_trailing_zeros 64 l.left) z) (omega (arith, higher _ l.invariant.1 some))

pub loop-left-preserved : goal.loop-left-preserved
unfolding with_bit_of
loop-left-preserved c =
    let l = c.loop-left in
    let some = c.loop-left-test.true in
    let z = low _ l.invariant.1 some in
    rw (one_up (count_trailing_zeros 64 l.left) z)
    (l.invariant.0, with_bit_fits _ false _ z l.invariant.1, taken_one _ _ _ _ _ _ _ l.invariant.1 some l.invariant.2 (rw l.invariant.0 at (yes c.is_reference.result c.is_reference.ensures c.if-not-is_reference.false)))

pub returns : goal.returns
returns c = (λ _. taken_all _ _ _ _ _ _ (rw c.loop-left-test.false at c.loop-left.invariant.2), λ _. tt)

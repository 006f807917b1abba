-- Each way on by the lemma of what is read there.
use Rattle.std.proofs.Common.{ℕ, length, sym, ◌∙◌, ap, arith}
use Rattle.std.proofs.lemmas.List.{length-take}
use borrow.Author.Tests.{eqb-true}
use Rattle.trace_read.proofs.Digits.{all_before, no_more, one_more, none_after, all_read, full}
use Rattle.trace_read.proofs.numbers_of.Goals as goal

pub returns-in_err-v : goal.returns-in_err-v
returns-in_err-v c = rw c.from_residual.ensures (c.loop-rest.invariant ∙ ap (all_before _) c.in_err-v.ensures.reads ∙ none_after _)

pub returns-in_err-push : goal.returns-in_err-push
returns-in_err-push c = rw c.from_residual-in_err-push.ensures (c.loop-rest.invariant ∙ ap (all_before _) c.in_ok-v.ensures.reads ∙ full _ _ _ c.in_err-push.ensures)

pub loop-rest-preserved : goal.loop-rest-preserved
loop-rest-preserved c = rw (c.in_ok-push.ensures, one_more) (c.loop-rest.invariant ∙ ap (all_before _) c.in_ok-v.ensures.reads)

pub returns : goal.returns
returns c = c.loop-rest.invariant ∙ ap (all_before _) (no_more _ (eqb-true (length c.loop-rest.rest.now) 0 (sym c.loop-rest-test.ensures))) ∙ all_read _ (omega (arith, length-take {A = ℕ}, c.loop-rest.numbers.few))

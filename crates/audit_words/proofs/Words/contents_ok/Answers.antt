use native.Mathlib.Omega.{arith}
use Rattle.model.proofs.Answers.{yes, no}
use Rattle.audit_pages.proofs.Stretches.{reads_own, own_span}
use Rattle.audit_words.specs.Contents.{SpanContents}
use Rattle.audit_words.specs.Words.{said_of}
use Rattle.audit_words.proofs.Contents.{plain_span, each_span, every_span}
use Rattle.audit_words.proofs.Passes.{none_passed, free_passed, goes, span_passed}
use Rattle.audit_words.proofs.Words.contents_ok.Goals as goal
use Rattle.audit_words.proofs.Words.contents_ok.Goals.{else-span-via-then-span+else-not-span_ok, else-span-via-else-span}

pub loop-g-init : goal.loop-g-init
loop-g-init c = none_passed _ _ _ _ c.args.self.filled

pub loop-g-preserved-then-owner-eq0 : goal.loop-g-preserved-then-owner-eq0
loop-g-preserved-then-owner-eq0 c = free_passed _ _ _ _ c.args.self.filled c.loop-g.g (omega arith) c.loop-g.invariant (omega (arith, c.owner.ensures))

pub span_ok-requires : goal.span_ok-requires
span_ok-requires c =
    let G = goes _ _ _ _ c.args.self.filled c.loop-g.g (omega arith) c.loop-g.invariant c.span_at-span.ensures (omega (arith, c.owner.ensures)) in
    (rw c.span_at-span.ensures.start G.first, reads_own c.span_at-span.ensures)

pub returns-then-not-span_ok : goal.returns-then-not-span_ok
returns-then-not-span_ok c =
    let G = goes _ _ _ _ c.args.self.filled c.loop-g.g (omega arith) c.loop-g.invariant c.span_at-span.ensures (omega (arith, c.owner.ensures)) in
    let tells = own_span c.span_at-span.ensures (said_of SpanContents c.args.self) c.span_ok.result c.span_ok.ensures in
    (λ x. absurd x, λ C. no c.span_ok.result tells c.if-not-span_ok.true (each_span _ _ _ _ c.args.self.filled C _ G.first))

pub loop-g-smaller : goal.loop-g-smaller
loop-g-smaller c =
    let G = goes _ _ _ _ c.args.self.filled c.loop-g.g (omega arith) c.loop-g.invariant c.span_at-span.ensures (omega (arith, c.owner.ensures)) in
    omega (arith, G.some, G.inside)

pub loop-g-preserved : goal.loop-g-preserved
loop-g-preserved c =
    let R = c.span_at-span.ensures in
    span_passed _ _ _ _ c.args.self.filled c.loop-g.g (omega arith) c.loop-g.invariant R (omega (arith, c.owner.ensures))
    (elim c.else-span.branch [
      | else-span-via-then-span+else-not-span_ok w ↦ λ _. yes w.span_ok.result (own_span R (said_of SpanContents c.args.self) w.span_ok.result w.span_ok.ensures) w.if-not-span_ok.false
      | else-span-via-else-span w ↦ λ x. plain_span _ _ _ _ c.args.self.filled R (goes _ _ _ _ c.args.self.filled c.loop-g.g (omega arith) c.loop-g.invariant R (omega (arith, c.owner.ensures))).first w.if-span.false x
    ])

pub returns : goal.returns
returns c = (λ _. every_span _ _ _ _ c.args.self.filled (λ s m. c.loop-g.invariant.2 s (omega arith)), λ _. tt)

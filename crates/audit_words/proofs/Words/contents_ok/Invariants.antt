-- The invariant: what stands before page g is passed. A turn passes a free page or a whole span.
use Prim.Native.Nat.{◌-◌}
use Rattle.audit_words.specs.Words.{said_of}
use Rattle.audit_words.proofs.Passes.{Passed}
use Rattle.audit_words.proofs.Words.contents_ok.Given as goal

abbrev pub invariant-loop-g : goal.invariant-loop-g
invariant-loop-g l = said_of Passed l.self l.g

abbrev pub decreases-loop-g : goal.decreases-loop-g
decreases-loop-g l = l.self.kept.pages - l.g

-- The invariant: the words of k blocks keep the rules of the span, and off, left and before are as `Stands` says at block k.
use Rattle.audit_bits.proofs.Turns.{Stands}
use Rattle.audit_bits.proofs.Blocks.blocks_ok.Given as goal

abbrev pub invariant-loop-k : goal.invariant-loop-k
invariant-loop-k l = Stands l.self.pages l.self.bits.now l.first l.size l.held l.allowed l.k l.off l.left l.before

-- The invariant: k blocks of the page have no bit.
use Prim.Native.Nat.{ℕ, ◌+◌, ◌*◌, ◌<◌}
use Rattle.model.specs.Memory.{word_bits}
use lib.Dec.{T}
use Rattle.audit_bits.specs.Rules.{bare}
use Rattle.audit_bits.specs.Blocks.{said_of}
use Rattle.audit_bits.proofs.Blocks.free_page_ok.Given as goal

abbrev pub invariant-loop-k : goal.invariant-loop-k
invariant-loop-k l = ((o : ℕ) → o < word_bits * l.k → T (said_of bare l.self (word_bits * l.first + o)))

-- The invariant: the pointer words of the blocks before `at` hold references.
use Rattle.audit_words.specs.Contents.{BlocksContents}
use Rattle.audit_words.specs.Words.{said_of}
use Rattle.audit_words.proofs.Words.blocks_ok.Given as goal

abbrev pub invariant-loop-at : goal.invariant-loop-at
invariant-loop-at l = said_of BlocksContents l.self l.from l.at

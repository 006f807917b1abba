-- A pointer word, or a number: what was found tells the refusal.
use mathlib.Core.Path.{sym}
use Rattle.call_records.proofs.Accesses.{pointer_within}
use Rattle.call_records.proofs.pointer_word.Goals as goal

pub returns-in-Pointer-clause-found : goal.returns-in-Pointer-clause-found
returns-in-Pointer-clause-found c = λ a. let t = rw c.in-Pointer.is at (c.in_ok-w.ensures a) in (t.0, t.2)

pub returns-in-Pointer-clause-within : goal.returns-in-Pointer-clause-within
returns-in-Pointer-clause-within c = let t = rw c.in-Pointer.is at (c.in_ok-w.ensures c.requires.0) in pointer_within c.requires.1 _ _ _ _ t.0 t.2

pub returns-in-Number-clause-found : goal.returns-in-Number-clause-found
returns-in-Number-clause-found c = λ a. let t = rw c.in-Number.is at (c.in_ok-w.ensures a) in sym t.0

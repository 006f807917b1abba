-- A number, or a pointer word: what was found tells the refusal.
use mathlib.Core.Path.{sym}
use Rattle.record_fields.proofs.Chains.{beside_itself}
use Rattle.call_records.proofs.Accesses.{not_found, number_within}
use Rattle.call_records.proofs.number_word.Goals as goal

pub returns-in_err-w-clause-found : goal.returns-in_err-w-clause-found
returns-in_err-w-clause-found c = λ a. let t = rw beside_itself at (c.in_err-w.ensures a) in not_found _ c.from_residual.result _ c.from_residual.ensures.1 (sym t.1)

pub returns-in-Number-clause-found : goal.returns-in-Number-clause-found
returns-in-Number-clause-found c = λ a. let t = rw (c.in-Number.is, beside_itself) at (c.in_ok-w.ensures a) in (t.1, t.2)

pub returns-in-Number-clause-within : goal.returns-in-Number-clause-within
returns-in-Number-clause-within c = let t = rw (c.in-Number.is, beside_itself) at (c.in_ok-w.ensures c.requires.0) in number_within _ _ _ _ t.1 t.2 c.requires.1

pub returns-in-Pointer-clause-found : goal.returns-in-Pointer-clause-found
returns-in-Pointer-clause-found c = λ a. let t = rw (c.in-Pointer.is, beside_itself) at (c.in_ok-w.ensures a) in sym t.1

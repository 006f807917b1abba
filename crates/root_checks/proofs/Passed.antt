-- What the checks give: a test's refusal and a row of refusals, for the search; and what a call answers whose `?` hands a check's refusal on.
use Prim.Native.Nat.{ℕ}
use mathlib.Core.Bool.{Bool, true, false}
use mathlib.Core.List.{List}
use mathlib.Core.Logic.{◌⊎◌, inl, inr}
use mathlib.Core.Path.{◌≡◌, refl, sym}
use Rattle.std.specs.Prelude.{Result, Ok, Err}
use Rattle.std.specs.Result.{IsErrAnd, result_and}
use Rattle.std.proofs.lemmas.Bool.Decides.{nat_tests}
use Rattle.std.proofs.lemmas.Result.{err_from_is_err_and}
use Rattle.model.specs.Memory.{Heap, lent}
use Rattle.model.specs.Answers.{◌given◌, ◌or_else◌, outcome, Meets}
use Rattle.model.specs.Checks.{open_refusal, slot_number_refusal, global_number_refusal, slot_refusal, slots_refusal, global_refusal}
use Rattle.model.specs.Refusals.{number_of, refused, answered}
use Rattle.model.specs.declared.Accepted.{Accepted}
use Rattle.model.specs.declared.Answer.{Answer}
use Rattle.model.specs.declared.Refusal.{Refusal}
use Rattle.model.proofs.Outcomes.{or_else_assoc}
use Rattle.model.proofs.Refusals.{refusal_first, none_first, refused_by}

-- a refusal with its test
pub given_tells : (n : ℕ) (b : Bool) → ((b ≡ true) × ((n given b) ≡ n)) ⊎ ((b ≡ false) × ((n given b) ≡ 0))
unfolding ◌given◌
given_tells n true = inl (refl, refl)
given_tells n false = inr (refl, refl)

-- two checks in a row: the first that refuses counts
pub and_row : {A B : Type 0} (x : Result A Refusal) (y : Result B Refusal) → refused (result_and x y) ≡ (refused x or_else refused y)
and_row (Ok a) y = sym (none_first (refused y))
and_row (Err r) y = sym (refusal_first r (refused y))

-- the rows of the model: a slot, and one more test after a slot's
pub slot_row : (h : Heap) (s i : ℕ) → slot_refusal h s i ≡ (open_refusal h s or_else slot_number_refusal i)
unfolding slot_refusal
slot_row h s i = refl

pub slots_row : (h : Heap) (s i j : ℕ) → slots_refusal h s i j ≡ (slot_refusal h s i or_else slot_number_refusal j)
unfolding slots_refusal slot_refusal
slots_row h s i j = sym (or_else_assoc (open_refusal h s) (slot_number_refusal i) (slot_number_refusal j))

pub global_row : (h : Heap) (s i g : ℕ) → global_refusal h s i g ≡ (slot_refusal h s i or_else global_number_refusal g)
unfolding global_refusal slot_refusal
global_row h s i g = sym (or_else_assoc (open_refusal h s) (slot_number_refusal i) (global_number_refusal g))

pub ruleset rows = (given_tells, and_row, slot_row, slots_row, global_row, nat_tests)

-- the number that a function of the heap gives by the roots alone, as the checks promise it
abbrev pub ByRoots : (Heap → ℕ) → List ℕ → ℕ → Type 0
ByRoots f r n = (p : ℕ) (a t b : List ℕ) → n ≡ f (lent p a t b r)

-- a check's refusal that a `?` hands on: of another check, and of a call, where no buffer changes
pub handed_on : {A : Type 0} (x : Result A Refusal) (r : Refusal) → IsErrAnd x (λ e. e ≡ r) → refused x ≡ number_of r
handed_on x r f = let p = err_from_is_err_and x f in rw (p.1, p.2) refl

pub call_refused : (x : Result Accepted Refusal) (r : Refusal) → IsErrAnd x (λ e. e ≡ r) → (h : Heap) {m : ℕ} → number_of r ≡ m → (done : Answer) (d : Heap) → Meets (outcome m h done d) (answered x) h.arena h.table h.bits h.roots
call_refused x r f h e done d = let p = err_from_is_err_and x f in rw (p.1, p.2) (refused_by r h done d e)

-- Refusals as the code has them: an enum with the table's numbers, and what a check or a call comes to by these numbers.
use Rattle.std.specs.Prelude.{ℕ, Result, Ok, Err}
use Rattle.model.specs.Answers.{bad_buffers, damaged, wrong_phase, bad_stack, bad_slot, bad_size, nil_slot, bad_field, no_room, unfinished}
use Rattle.model.specs.declared.Answer.{Answer}
use Rattle.model.specs.declared.Answer.TheVariants.{Refused}
use Rattle.model.specs.declared.Answer.TheVariants as answer
use Rattle.model.specs.declared.Accepted.{Accepted}
use Rattle.model.specs.declared.Accepted.TheVariants as accepted
use Rattle.model.specs.declared.Refusal.{Refusal}
use Rattle.model.specs.declared.Refusal.TheVariants.{BadBuffers, Damaged, WrongPhase, BadStack, BadSlot, BadSize, NilSlot, BadField, NoRoom, Unfinished}

-- The table of refusals: "No. | Name | Given when".
abbrev pub number_of : Refusal → ℕ
number_of BadBuffers = bad_buffers
number_of Damaged = damaged
number_of WrongPhase = wrong_phase
number_of BadStack = bad_stack
number_of BadSlot = bad_slot
number_of BadSize = bad_size
number_of NilSlot = nil_slot
number_of BadField = bad_field
number_of NoRoom = no_room
number_of Unfinished = unfinished

-- the number that a check comes to: its refusal's, 0 where it lets the call on
abbrev pub refused : {A : Type 0} → Result A Refusal → ℕ
refused (Ok a) = 0
refused (Err r) = number_of r

-- the answer of a call that was accepted
abbrev pub told : Accepted → Answer
told accepted.Done = answer.Done
told (accepted.Value v) = answer.Value v
told (accepted.Swept start freed returned) = answer.Swept start freed returned

-- the answer that a call comes to
abbrev pub answered : Result Accepted Refusal → Answer
answered (Ok a) = told a
answered (Err r) = Refused (number_of r)

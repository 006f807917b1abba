-- What is found of a field.
use Rattle.std.specs.Prelude.{ℕ, ◌+◌, List, Result, Ok, Err, ◌≡◌}
use Rattle.model.specs.Memory.{Heap, lent}
use Rattle.model.specs.Answers.{◌or_else◌, bad_field}
use Rattle.model.specs.Checks.{slots_refusal, nil_refusal, pointer_refusal, pointer_field_refusal, number_field_refusal, record_at}
use Rattle.model.specs.Promises.{Buffer, found_with}
use Rattle.model.specs.Refusals.{number_of}
use Rattle.model.specs.declared.Refusal.{Refusal}
use Rattle.record_fields.specs.declared.Field.{Field}
use Rattle.record_fields.specs.declared.Field.TheVariants.{Pointer, Number}

-- what is found tells the refusals of a call on a pointer word and of one on a number, and where the field stands;
-- a refusal's number is never 0 (`number_some` of Rattle.model.proofs.Refusals)
abbrev pub Tells : ℕ → ℕ → ℕ → Result Field Refusal → Type 0
Tells onPointer onNumber at (Ok (Pointer w)) = (onPointer ≡ 0) × (onNumber ≡ bad_field) × (w.0 ≡ at)
Tells onPointer onNumber at (Ok (Number w)) = (onPointer ≡ bad_field) × (onNumber ≡ 0) × (w.0 ≡ at)
Tells onPointer onNumber at (Err r) = (onPointer ≡ number_of r) × (onNumber ≡ number_of r)

-- .. of field f of the record at word w
abbrev pub TellsOf : Heap → ℕ → ℕ → Result Field Refusal → Type 0
TellsOf h w f x = Tells (pointer_field_refusal h w f) (number_field_refusal h w f) (w + f) x

-- .. of the record in slot j of stack s, for a call that names slot i besides
abbrev pub number_refusal_beside : Heap → ℕ → ℕ → ℕ → ℕ → ℕ
number_refusal_beside h s i j f = slots_refusal h s i j or_else nil_refusal h s j or_else number_field_refusal h (record_at h s j) f

abbrev pub TellsIn : Heap → ℕ → ℕ → ℕ → ℕ → Result Field Refusal → Type 0
TellsIn h s i j f x = Tells (pointer_refusal h s i j f) (number_refusal_beside h s i j f) (record_at h s j + f) x

-- Contracts over what is lent, for every content of what is not.
abbrev pub FieldOf : ℕ → Buffer → Buffer → ℕ → ℕ → Result Field Refusal → Type 0
FieldOf p table bits w f x = (a r : List ℕ) → TellsOf (lent p a table.entry bits.entry r) w f x

abbrev pub Finds : ℕ → Buffer → Buffer → Buffer → ℕ → ℕ → ℕ → ℕ → Result Field Refusal → Type 0
Finds p table bits roots s i j f x = (a : List ℕ) → TellsIn (found_with a p table bits roots) s i j f x

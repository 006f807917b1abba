-- The chain of refusals of a call on a field, by the way that the code took.
use Prim.Native.Nat.{ℕ}
use mathlib.Core.Bool.{Bool, true, false, cond}
use mathlib.Core.Path.{◌≡◌, refl}
use lib.Dec.{eqb}
use Rattle.std.specs.Prelude.{Result, Err}
use Rattle.std.specs.Result.{IsErrAnd}
use Rattle.std.proofs.lemmas.Result.{err_from_is_err_and}
use Rattle.model.specs.Memory.{Heap, slot, nil}
use Rattle.model.specs.Answers.{◌given◌, ◌or_else◌}
use Rattle.model.specs.Checks.{slot_number_refusal, slot_refusal, slots_refusal, pointer_refusal, number_refusal, record_at}
use Rattle.model.specs.Refusals.{number_of}
use Rattle.model.specs.declared.Refusal.{Refusal}
use Rattle.model.specs.declared.Refusal.TheVariants.{NilSlot}
use Rattle.model.proofs.Refusals.{refusal_first}
use Rattle.record_fields.specs.Fields.{TellsOf, TellsIn, number_refusal_beside}
use Rattle.record_fields.specs.declared.Field.{Field}

-- one slot named twice is tested once
twice : (n : ℕ) → (n or_else n) ≡ n
unfolding ◌or_else◌
twice n = go (eqb n 0)
  where
    go : (b : Bool) → cond b n n ≡ n
    go true = refl
    go false = refl

pub beside_itself : (h : Heap) (s j f : ℕ) → number_refusal_beside h s j j f ≡ number_refusal h s j f
unfolding number_refusal slots_refusal slot_refusal
beside_itself h s j f = rw (twice (slot_number_refusal j))

-- the slots' refusal, handed on; then nil in the record's slot; then what the field is
module _ (h : Heap) (s i j f : ℕ) where
  pub no_slots : (x : Result Field Refusal) (r : Refusal) → IsErrAnd x (λ e. e ≡ r) → number_of r ≡ slots_refusal h s i j → TellsIn h s i j f x
  unfolding pointer_refusal
  no_slots x r q e = let p = err_from_is_err_and x q in rw (p.1, p.2, ← e) (refusal_first r _, refusal_first r _)

  module _ (z : 0 ≡ slots_refusal h s i j) where
    pub no_record : true ≡ eqb (slot h s j) nil → TellsIn h s i j f (Err NilSlot)
    unfolding pointer_refusal ◌given◌ ◌or_else◌
    no_record n = rw (← z, ← n) (refl, refl)

    pub named_slot : false ≡ eqb (slot h s j) nil → (y : Result Field Refusal) → TellsOf h (record_at h s j) f y → TellsIn h s i j f y
    unfolding pointer_refusal ◌given◌ ◌or_else◌
    named_slot n y Y = rw (← z, ← n) Y

-- What is found of a pointer word, or of a number, for the calls on it.
use Rattle.std.specs.Prelude.{ℕ, ◌+◌, List, Result, Ok, Err, ◌≡◌}
use Rattle.model.specs.Checks.{pointer_refusal, number_refusal, record_at}
use Rattle.model.specs.Promises.{Buffer, found_with}
use Rattle.model.specs.Refusals.{number_of}
use Rattle.model.specs.declared.Refusal.{Refusal}
use Rattle.units.specs.declared.Word.{Word}

-- where a word stands that a call is not refused; or the call's refusal
abbrev pub Found : ℕ → ℕ → Result Word Refusal → Type 0
Found refusal at (Ok w) = (refusal ≡ 0) × (w.0 ≡ at)
Found refusal at (Err r) = number_of r ≡ refusal

-- Contracts over what is lent, for every arena: pointer word f of the record in slot j, for a call that names slot i besides ..
abbrev pub FindsPointer : ℕ → Buffer → Buffer → Buffer → ℕ → ℕ → ℕ → ℕ → Result Word Refusal → Type 0
FindsPointer p table bits roots s i j f x =
    (a : List ℕ) → Found (pointer_refusal (found_with a p table bits roots) s i j f) (record_at (found_with a p table bits roots) s j + f) x

-- .. and number f
abbrev pub FindsNumber : ℕ → Buffer → Buffer → Buffer → ℕ → ℕ → ℕ → Result Word Refusal → Type 0
FindsNumber p table bits roots s j f x =
    (a : List ℕ) → Found (number_refusal (found_with a p table bits roots) s j f) (record_at (found_with a p table bits roots) s j + f) x

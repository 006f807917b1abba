-- The bytes that the trace program writes for a call's answer, and for a line that does not read.
use Rattle.std.specs.Prelude.{ℕ, zero, suc, ◌+◌, ◌/◌, ◌%◌, List, [], ◌∷◌, ◌++◌, ◌≡◌, length, if◌then◌else◌}
use Rattle.std.specs.List.{flat_map}
use Rattle.std.proofs.lemmas.List.Edits.{sets}
use Rattle.model.specs.Bounded.{◌<?◌}
use Rattle.model.specs.declared.Answer.{Answer}
use Rattle.model.specs.declared.Answer.TheVariants.{Refused, Done, Value, Swept}

-- "A number is decimal without sign, leading zero (zero is `0`) or comma": a digit, or the digits of n / 10 and then the last one; k places at most
unfoldable pub decimal_in : ℕ → ℕ → List ℕ
decimal_in zero n = []
decimal_in (suc k) n = if n <? 10 then (48 + n) ∷ [] else decimal_in k (n / 10) ++ ((48 + n % 10) ∷ [])

-- ".. below 2^64", which takes at most 20 places
unfoldable pub decimal : ℕ → List ℕ
decimal n = decimal_in 20 n

-- "one space before each"
abbrev pub spaced : ℕ → List ℕ
spaced n = 32 ∷ decimal n

abbrev pub longest_spaced : ℕ
longest_spaced = 21

-- "Every output line ends with a line feed."
abbrev pub line_end : List ℕ
line_end = 10 ∷ []

-- `ok`, `no` and `bad`
abbrev pub ok_word : List ℕ
ok_word = 111 ∷ 107 ∷ []

abbrev pub no_word : List ℕ
no_word = 110 ∷ 111 ∷ []

abbrev pub bad_word : List ℕ
bad_word = 98 ∷ 97 ∷ 100 ∷ []

-- a line: a word, then numbers
abbrev pub line_text : List ℕ → List ℕ → List ℕ
line_text word numbers = word ++ flat_map spaced numbers ++ line_end

-- "Each line answers `ok` with its numbers (none for O, C, S, W, P, T, F and H) or `no` and the refusal."
abbrev pub answer_text : Answer → List ℕ
answer_text (Refused n) = line_text no_word (n ∷ [])
answer_text Done = line_text ok_word []
answer_text (Value v) = line_text ok_word (v ∷ [])
answer_text (Swept start freed returned) = line_text ok_word (start ∷ freed ∷ returned ∷ [])

-- "A line that does not read prints `bad` and its line number"
abbrev pub bad_text : ℕ → List ℕ
bad_text number = line_text bad_word (number ∷ [])

-- no output line is longer: `ok` and three numbers
abbrev pub longest_answer : ℕ
longest_answer = 66

-- what a function that writes promises: the bytes stand in the buffer from `at` on, nothing else changed, and r is the place after them
pub record Wrote (bytes : List ℕ) (at : ℕ) (entry exit : List ℕ) (r : ℕ) : Type 0 where
  pub buffer : exit ≡ sets entry at bytes
  pub end : r ≡ at + length bytes

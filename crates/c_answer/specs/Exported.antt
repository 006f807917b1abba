-- What a call for C leaves: the answer that the call makes, written out.
use Rattle.std.specs.Prelude.{ℕ, List, ◌≡◌, get_or, set}
use Rattle.model.specs.Answers.{numbers}
use Rattle.model.specs.Promises.{Buffer, Makes}
use Rattle.model.specs.declared.Answer.{Answer}
use Rattle.model.specs.declared.Call.{Call}

-- number k of an answer: the refusal, then the values
abbrev pub number_of : Answer → ℕ → ℕ
number_of answer k = get_or (numbers answer) k 0

-- an array with the three values of an answer
abbrev pub with_values : Answer → List ℕ → List ℕ
with_values answer out = set (set (set out 0 (number_of answer 1)) 1 (number_of answer 2)) 2 (number_of answer 3)

-- an answer is written out: the result is its refusal, 0 where it is accepted, and the lent array has its three values
abbrev pub Written : Answer → Buffer → ℕ → Type 0
Written answer out r = (r ≡ number_of answer 0) × (out.exit ≡ with_values answer out.entry)

-- what a call for C promises, of P, the four buffers and the array of values: the call is made, and its answer written out
abbrev pub Exports : Call → ℕ → Buffer → Buffer → Buffer → Buffer → Buffer → ℕ → Type 0
Exports c p arena table bits roots out r = (answer : Answer) × (Makes c p arena table bits roots answer × Written answer out r)

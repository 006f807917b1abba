-- Refusals, answers and outcomes.
use Rattle.std.specs.Prelude.{ℕ, Bool, cond, List, [], ◌∷◌, ◌≡◌, get_or, ◌==◌, if◌then◌else◌}
use Rattle.model.specs.Memory.{Heap, choose}
use Rattle.model.specs.declared.Answer.{Answer}
use Rattle.model.specs.declared.Answer.TheVariants.{Refused, Done, Value, Swept}

infixr 20 ◌or_else◌
infix 22 ◌given◌
-- The table of refusals: "No. | Name | Given when", in the order in which they are tested. [2] "Refusal 8 disappears".
abbrev pub bad_buffers : ℕ
bad_buffers = 1

abbrev pub damaged : ℕ
damaged = 12

abbrev pub wrong_phase : ℕ
wrong_phase = 2

abbrev pub bad_stack : ℕ
bad_stack = 3

abbrev pub bad_slot : ℕ
bad_slot = 4

abbrev pub bad_size : ℕ
bad_size = 5

abbrev pub nil_slot : ℕ
nil_slot = 6

abbrev pub bad_field : ℕ
bad_field = 7

abbrev pub no_room : ℕ
no_room = 9

abbrev pub unfinished : ℕ
unfinished = 10

-- "trace program only, shown as `bad`": listed for the table; the trace program writes it as `bad`
abbrev pub bad_line : ℕ
bad_line = 11

-- a refusal's number where its test holds, else 0
unfoldable pub ◌given◌ : ℕ → Bool → ℕ
n given test = if test then n else 0

-- "They are tested in the order of this table; the first that applies is the answer."
unfoldable pub ◌or_else◌ : ℕ → ℕ → ℕ
first or_else rest = if first == 0 then rest else first

-- "a definition lists this paper's number and values for each case": the refusal, 0 where the call is accepted, and three values.
-- "A refusal returns its number, 0 in every value".
abbrev pub numbers : Answer → List ℕ
numbers (Refused n) = n ∷ 0 ∷ 0 ∷ 0 ∷ []
numbers Done = 0 ∷ 0 ∷ 0 ∷ 0 ∷ []
numbers (Value v) = 0 ∷ v ∷ 0 ∷ 0 ∷ []
numbers (Swept start freed returned) = 0 ∷ start ∷ freed ∷ returned ∷ []

-- the refusal's number of an answer, 0 if the call was accepted
abbrev pub refusal : Answer → ℕ
refusal a = get_or (numbers a) 0 0

abbrev pub accepted : Answer → Bool
accepted a = refusal a == 0

-- what a call comes to: its answer, and the heap that it leaves
pub record Outcome : Type 0 where
  pub answer : Answer
  pub heap : Heap

-- "A refusal ... changes no word in any buffer": refusal n of a call on h; where n is 0, the answer and the heap that it leaves. ([2] The one refusal
-- that changes words is 9: the allocation has swept before it is refused, and h is then the heap that its sweeps left.)
abbrev pub outcome : ℕ → Heap → Answer → Heap → Outcome
outcome n h a done = record { answer = cond (n == 0) a (Refused n); heap = choose (n == 0) done h }

-- what a call's contract says: its answer, case and numbers, and the four buffers afterwards are the outcome's. (`listed` follows from `answer`; it
-- stands here since "The promises use that definition.", `numbers`.)
pub record Meets (o : Outcome) (r : Answer) (a t b s : List ℕ) : Type 0 where
  pub answer : r ≡ o.answer
  pub listed : numbers r ≡ numbers o.answer
  pub arena : a ≡ o.heap.arena
  pub table : t ≡ o.heap.table
  pub bits : b ≡ o.heap.bits
  pub roots : s ≡ o.heap.roots

-- What a line of a trace reads as: the bytes before its line feed become the call that they ask for, or do not read.
use Rattle.std.specs.Prelude.{ℕ, ◌+◌, ◌-◌, ◌*◌, ◌^◌, Bool, ◌&&◌, List, [], ◌∷◌, ◌≡◌, length, Option, Some, None, option_and_then, MatchOption, ◌==◌, if◌then◌else◌}
use Rattle.std.specs.Borrow.{Bor}
use Rattle.model.specs.Bounded.{◌<?◌, ◌≤?◌}
use Rattle.model.specs.declared.Call.TheVariants.{Open, Close, Allocate, Copy, Clear, Load, Store, Put, Get, LoadGlobal, StoreGlobal, Start, ScanStack, ScanGlobals, MarkStep, Finish, SweepStep}
use Rattle.trace_read.specs.declared.Line.{Line}
use Rattle.trace_read.specs.declared.Line.TheVariants.{Setup, Call}

-- "A number is decimal": its digits are the bytes 48 to 57
abbrev pub is_digit : ℕ → Bool
is_digit b = 48 ≤? b && b ≤? 57

abbrev pub space : ℕ
space = 32

-- no letter takes more numbers
abbrev pub most_numbers : ℕ
most_numbers = 4

-- The numbers of a line; None for what does not read, or has more numbers than a letter takes.
abbrev pub unread : Option (List ℕ)
unread = None

-- the number v, then the numbers of n
unfoldable pub before : ℕ → Option (List ℕ) → Option (List ℕ)
before v None = unread
before v (Some n) = if length n <? most_numbers then Some (v ∷ n) else unread

-- ".. below 2^64"
unfoldable pub ended : ℕ → Option (List ℕ) → Option (List ℕ)
ended v n = if v <? 2 ^ 64 then before v n else unread

unfoldable mutual
  -- the digits after the first, where those read come to v, and what follows them: "without sign, leading zero (zero is `0`) or comma"
  pub digits : ℕ → List ℕ → Option (List ℕ)
  digits v [] = ended v (Some [])
  digits v (b ∷ bs) =
      if is_digit b then (if v == 0 then unread else digits (v * 10 + (b - 48)) bs)
      else ended v (if b == space then number bs else unread)

  -- a number, which has a digit at least
  pub number : List ℕ → Option (List ℕ)
  number [] = unread
  number (b ∷ bs) = if is_digit b then digits (b - 48) bs else unread

-- "then numbers, one space before each"
unfoldable pub numbers_of : List ℕ → Option (List ℕ)
numbers_of [] = Some []
numbers_of (b ∷ bs) = if b == space then number bs else unread

-- a letter's line, of its numbers: "so does a wrong count of numbers"
abbrev pub of_none : Line → List ℕ → Option Line
of_none l [] = Some l
of_none l (a ∷ n) = None

abbrev pub of_one : (ℕ → Line) → List ℕ → Option Line
of_one l [] = None
of_one l (a ∷ n) = of_none (l a) n

abbrev pub of_two : (ℕ → ℕ → Line) → List ℕ → Option Line
of_two l [] = None
of_two l (a ∷ n) = of_one (l a) n

abbrev pub of_three : (ℕ → ℕ → ℕ → Line) → List ℕ → Option Line
of_three l [] = None
of_three l (a ∷ n) = of_two (l a) n

abbrev pub of_four : (ℕ → ℕ → ℕ → ℕ → Line) → List ℕ → Option Line
of_four l [] = None
of_four l (a ∷ n) = of_three (l a) n

-- "`H P` comes first", "O s, C s open and close; A s i size p; M s i j copy; Z s i clear; L s i j f; S s j f k; W s j f v; R s j f; G s i g load global;
-- P s g i store to global; T start; K s, Q scan; N mark step; F finish; E sweep step.": a row for each of the eighteen letters, by its byte
unfoldable pub line_of : ℕ → List ℕ → Option Line
line_of b n =
    if b == 72 then of_one Setup n
    else if b == 79 then of_one (λ s. Call (Open s)) n
    else if b == 67 then of_one (λ s. Call (Close s)) n
    else if b == 65 then of_four (λ s i size p. Call (Allocate s i size p)) n
    else if b == 77 then of_three (λ s i j. Call (Copy s i j)) n
    else if b == 90 then of_two (λ s i. Call (Clear s i)) n
    else if b == 76 then of_four (λ s i j f. Call (Load s i j f)) n
    else if b == 83 then of_four (λ s j f k. Call (Store s j f k)) n
    else if b == 87 then of_four (λ s j f v. Call (Put s j f v)) n
    else if b == 82 then of_three (λ s j f. Call (Get s j f)) n
    else if b == 71 then of_three (λ s i g. Call (LoadGlobal s i g)) n
    else if b == 80 then of_three (λ s g i. Call (StoreGlobal s g i)) n
    else if b == 84 then of_none (Call Start) n
    else if b == 75 then of_one (λ s. Call (ScanStack s)) n
    else if b == 81 then of_none (Call ScanGlobals) n
    else if b == 78 then of_none (Call MarkStep) n
    else if b == 70 then of_none (Call Finish) n
    else if b == 69 then of_none (Call SweepStep) n
    else None

-- "lines of at most 80 bytes before the line feed"
abbrev pub longest_line : ℕ
longest_line = 80

-- ".. one letter, then numbers"
unfoldable pub read_line : List ℕ → Option Line
read_line [] = None
read_line (b ∷ bs) = if length (b ∷ bs) ≤? longest_line then option_and_then (line_of b) (numbers_of bs) else None

-- what the reader's parts promise: a digit's value, None for any other byte
abbrev pub digit_of : ℕ → Option ℕ
digit_of b = if is_digit b then Some (b - 48) else None

-- .. and what a number read tells: the numbers n of a line are that number, then those of the bytes after it
abbrev pub Reads : Option (List ℕ) → Option (ℕ × Bor (List ℕ)) → Type 0
Reads n r = MatchOption r (n ≡ unread) (λ p. n ≡ before p.0 (numbers_of p.1.now))

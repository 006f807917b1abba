-- Laws of the numbers of a line: what the digits from a place on come to, by the byte at that place.
use Prim.Native.Nat.{ℕ, ◌+◌, ◌-◌, ◌*◌, ◌^◌, ◌<◌, ◌≤◌}
use mathlib.Core.Bool.{Bool, true, false, cond}
use mathlib.Core.List.{List, [], ◌∷◌, ◌++◌}
use mathlib.Core.Path.{◌≡◌, refl, ◌∙◌, ap}
use native.Mathlib.Numerals.{add-one}
use native.Mathlib.Omega.{arith}
use lib.ListN.{length, get_or, drop, drop_of_length-le}
use lib.Seq.{drop-cons}
use lib.Dec.{eqb, ltb}
use borrow.Author.Tests.{lt-ltb, le-ltb, lt-leb, le-leb, ne_eqb}
use Rattle.std.proofs.Common.{Option, Some, None, option_and_then}
use Rattle.std.specs.List.{between}
use Rattle.std.proofs.lemmas.Slice.{between_to_end}
use Rattle.trace_read.specs.Lines.{is_digit, unread, before, ended, digits, number, numbers_of, digit_of, most_numbers, longest_line, read_line, line_of}

-- a byte is a digit or not

digit_no : (b : ℕ) → digit_of b ≡ None → is_digit b ≡ false
digit_no b = go (is_digit b)
  where
    go : (p : Bool) → cond p (Some (b - 48)) None ≡ None → p ≡ false
    go true h = cc
    go false h = refl

digit_yes : (b : ℕ) {d : ℕ} → digit_of b ≡ Some d → (is_digit b ≡ true) × (b - 48 ≡ d)
digit_yes b {d} = go (is_digit b)
  where
    go : (p : Bool) → cond p (Some (b - 48)) None ≡ Some d → (p ≡ true) × (b - 48 ≡ d)
    go true h = (refl, cc)
    go false h = absurd (cc)

fits_ended : (v : ℕ) (n : Option (List ℕ)) → v < 2 ^ 64 → ended v n ≡ before v n
unfolding ended
fits_ended v n l = rw (lt-ltb v (2 ^ 64) l)

-- a number of 2^64 or more stays one
too_large : (v : ℕ) (bs : List ℕ) → 2 ^ 64 ≤ v → digits v bs ≡ unread
unfolding digits ended
too_large v [] l = rw (le-ltb v (2 ^ 64) l)
too_large v (b ∷ bs) l = rw (le-ltb v (2 ^ 64) l, ne_eqb v 0 (λ e. omega arith)) (go (is_digit b) (too_large (v * 10 + (b - 48)) bs (omega arith)))
  where
    go : (p : Bool) → digits (v * 10 + (b - 48)) bs ≡ unread → cond p (digits (v * 10 + (b - 48)) bs) unread ≡ unread
    go true e = e
    go false e = refl

-- the bytes from a place on
module _ (bytes : List ℕ) (i : ℕ) where
  pub next : i < length bytes → drop i bytes ≡ get_or bytes i 0 ∷ drop (i + 1) bytes
  next h = rw (add-one, drop-cons bytes i 0)

  -- at the end of the line, and at a byte that is no digit, a number ends
  pub ends : (v : ℕ) → length bytes ≤ i → v < 2 ^ 64 → digits v (drop i bytes) ≡ before v (numbers_of [])
  unfolding digits numbers_of
  ends v h l = rw (drop_of_length-le bytes h) (fits_ended v (Some []) l)

  pub stops : (v : ℕ) → i < length bytes → v < 2 ^ 64 → digit_of (get_or bytes i 0) ≡ None → digits v (drop i bytes) ≡ before v (numbers_of (between i (length bytes) bytes))
  unfolding digits numbers_of
  stops v h l e = rw (between_to_end bytes i (length bytes) (omega arith), next h, digit_no (get_or bytes i 0) e) (fits_ended v _ l)

  -- a digit after a leading zero
  pub leads : (v d : ℕ) → i < length bytes → v ≡ 0 → digit_of (get_or bytes i 0) ≡ Some d → digits v (drop i bytes) ≡ unread
  unfolding digits
  leads v d h z e = rw (z, next h, (digit_yes (get_or bytes i 0) e).0)

  -- .. after another number, which it makes larger
  pub goes_on : (v d : ℕ) → i < length bytes → (v ≡ 0 → ⊥) → digit_of (get_or bytes i 0) ≡ Some d → digits v (drop i bytes) ≡ digits (v * 10 + d) (drop (i + 1) bytes)
  unfolding digits
  goes_on v d h z e = rw (next h, (digit_yes (get_or bytes i 0) e).0, (digit_yes (get_or bytes i 0) e).1, ne_eqb v 0 z)

  -- .. too large
  pub overflows : (v d : ℕ) → i < length bytes → (v ≡ 0 → ⊥) → digit_of (get_or bytes i 0) ≡ Some d → 2 ^ 64 ≤ v * 10 + d → digits v (drop i bytes) ≡ unread
  overflows v d h z e l = goes_on v d h z e ∙ too_large _ (drop (i + 1) bytes) l

pub ruleset digit_by_digit = (ends, stops, leads, goes_on, overflows)

-- a number behind its space

pub too_short : (bytes : List ℕ) → 0 < length bytes → length bytes < 2 → numbers_of bytes ≡ unread
unfolding numbers_of digits
too_short [] h l = absurd (omega arith)
too_short (b ∷ []) h l = go (eqb b 32)
  where
    go : (p : Bool) → cond p (number []) unread ≡ unread
    go true = refl
    go false = refl
too_short (b ∷ c ∷ bs) h l = absurd (omega arith)

pub no_space : (bytes : List ℕ) → 0 < length bytes → (get_or bytes 0 0 ≡ 32 → ⊥) → numbers_of bytes ≡ unread
unfolding numbers_of
no_space [] h e = absurd (omega arith)
no_space (b ∷ bs) h e = rw (ne_eqb b 32 e)

pub no_digit : (bytes : List ℕ) → 2 ≤ length bytes → get_or bytes 0 0 ≡ 32 → digit_of (get_or bytes 1 0) ≡ None → numbers_of bytes ≡ unread
unfolding numbers_of digits
no_digit [] h s e = absurd (omega arith)
no_digit (b ∷ []) h s e = absurd (omega arith)
no_digit (b ∷ c ∷ bs) h s e = rw (s, digit_no c e)

pub first_digit : (bytes : List ℕ) (d : ℕ) → 2 ≤ length bytes → get_or bytes 0 0 ≡ 32 → digit_of (get_or bytes 1 0) ≡ Some d → numbers_of bytes ≡ digits d (drop 2 bytes)
unfolding numbers_of digits
first_digit [] d h s e = absurd (omega arith)
first_digit (b ∷ []) d h s e = absurd (omega arith)
first_digit (b ∷ c ∷ bs) d h s e = rw (s, (digit_yes c e).0, (digit_yes c e).1)

pub ruleset begins = (too_short, no_space, no_digit)

-- numbers one after the other

pub no_more : (bytes : List ℕ) → length bytes ≡ 0 → numbers_of bytes ≡ Some []
unfolding numbers_of
no_more [] h = refl
no_more (b ∷ bs) h = absurd (omega arith)

abbrev pub all_before : List ℕ → Option (List ℕ) → Option (List ℕ)
all_before [] n = n
all_before (v ∷ vs) n = before v (all_before vs n)

pub one_more : (vs : List ℕ) (v : ℕ) (n : Option (List ℕ)) → all_before (vs ++ (v ∷ [])) n ≡ all_before vs (before v n)
one_more [] v n = refl
one_more (x ∷ vs) v n = ap (before x) (one_more vs v n)

pub none_after : (vs : List ℕ) → all_before vs unread ≡ unread
unfolding before
none_after [] = refl
none_after (x ∷ vs) = rw (none_after vs)

pub all_read : (vs : List ℕ) → length vs ≤ most_numbers → all_before vs (Some []) ≡ Some vs
unfolding before
all_read [] h = refl
all_read (x ∷ vs) h = rw (all_read vs (omega arith), lt-ltb (length vs) most_numbers h)

-- no line has five numbers: counted so that what does not read has five
size : Option (List ℕ) → ℕ
size None = 5
size (Some n) = length n

size_before : (v : ℕ) (o : Option (List ℕ)) (k : ℕ) → k < 5 → k ≤ size o → k + 1 ≤ size (before v o)
unfolding before size
size_before v None k h l = omega arith
size_before v (Some n) k h l = go (ltb (length n) most_numbers)
  where
    go : (p : Bool) → k + 1 ≤ size (cond p (Some (v ∷ n)) unread)
    go true = omega arith
    go false = omega arith

size_all : (vs : List ℕ) (o : Option (List ℕ)) (k : ℕ) → k + length vs < 6 → k ≤ size o → k + length vs ≤ size (all_before vs o)
size_all [] o k h l = omega arith
size_all (v ∷ vs) o k h l = omega (arith, size_before v (all_before vs o) (k + length vs) (omega arith) (size_all vs o k (omega arith) l))

full_before : (v : ℕ) (o : Option (List ℕ)) → most_numbers ≤ size o → before v o ≡ unread
unfolding before size
full_before v None h = refl
full_before v (Some n) h = rw (le-ltb (length n) most_numbers h)

pub full : (vs : List ℕ) (v : ℕ) (o : Option (List ℕ)) → length vs ≡ most_numbers → all_before vs (before v o) ≡ unread
full [] v o h = absurd (omega arith)
full (x ∷ vs) v o h = full_before x (all_before vs (before v o)) (omega (arith, size_all vs (before v o) 1 (omega arith) (size_before v o 0 (omega arith) (omega arith))))

-- the line as a whole

pub read_none : (line : List ℕ) → length line < 1 → read_line line ≡ None
unfolding read_line
read_none [] h = refl
read_none (b ∷ bs) h = absurd (omega arith)

pub read_long : (line : List ℕ) → longest_line < length line → read_line line ≡ None
unfolding read_line
read_long [] h = refl
read_long (b ∷ bs) h = rw (lt-leb (length (b ∷ bs)) longest_line h)

pub read_some : (line : List ℕ) → 1 ≤ length line → length line ≤ longest_line → read_line line ≡ option_and_then (line_of (get_or line 0 0)) (numbers_of (drop 1 line))
unfolding read_line
read_some [] h l = absurd (omega arith)
read_some (b ∷ bs) h l = rw (le-leb (length (b ∷ bs)) longest_line l)

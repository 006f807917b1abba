-- Laws of the bytes written: a number's digits, and one run of bytes after another.
use Prim.Native.Nat.{ℕ, zero, suc, ◌+◌, ◌/◌, ◌%◌, ◌^◌, ◌<◌, ◌≤◌}
use mathlib.Core.Bool.{Bool, true, false, cond}
use mathlib.Core.List.{List, [], ◌∷◌, ◌++◌, append_assoc}
use mathlib.Core.Path.{◌≡◌, refl, ◌∙◌, ap}
use native.Mathlib.Numerals.{add-one}
use native.Mathlib.Omega.{arith}
use lib.Dec.{ltb}
use lib.ListN.{length, set, length-append}
use lib.Seq.{sets, sets-eq}
use borrow.Rule.Slice.PartMut.{put_mid}
use Rattle.std.specs.Fmt.{decimal as std_decimal}
use Rattle.std.proofs.lemmas.Fmt.{AppendsLastDigit, decimal_from_appends, length-decimal-le, decimal_step as std_decimal_step}
use Rattle.std.proofs.lemmas.List.{drop-drop}
pub use Rattle.std.proofs.lemmas.Grind.{common_steps}
use borrow.Author.Tests.{lt-ltb, le-ltb}
use Rattle.model.specs.declared.Answer.{Answer}
use Rattle.model.specs.declared.Answer.TheVariants.{Refused, Done, Value, Swept}
use Rattle.trace_write.specs.Text.{decimal_in, decimal, answer_text, bad_text, longest_answer, Wrote}

-- the digits are the library's, and a number has at most 20 of them
appends : AppendsLastDigit decimal_in
unfolding decimal_in
appends = record { one = λ k n h. rw (lt-ltb n 10 h); more = λ k n h. rw (le-ltb n 10 h) }

same : (n : ℕ) → n < 2 ^ 64 → decimal n ≡ std_decimal n
unfolding decimal
same n l = decimal_from_appends decimal_in appends 20 n l (length-decimal-le 20 n (omega arith) (omega arith) l)

pub decimal_digit : (n : ℕ) → n < 10 → decimal n ≡ (48 + n) ∷ []
unfolding decimal
decimal_digit n h = appends.one 19 n h

pub decimal_step : (n : ℕ) → 10 ≤ n → n < 2 ^ 64 → decimal n ≡ decimal (n / 10) ++ ((48 + n % 10) ∷ [])
decimal_step n h l = rw (same n l, same (n / 10) (omega arith)) (std_decimal_step n h l)

-- .. and its length
pub length_digit : (n : ℕ) → n < 10 → length (decimal n) ≡ 1
length_digit n h = ap length (decimal_digit n h)

pub length_step : (n : ℕ) → 10 ≤ n → n < 2 ^ 64 → length (decimal n) ≡ length (decimal (n / 10)) + 1
length_step n h l = ap length (decimal_step n h l) ∙ length-append (decimal (n / 10)) ((48 + n % 10) ∷ [])

within : (k n : ℕ) → length (decimal_in k n) ≤ k
unfolding decimal_in
within zero n = omega arith
within (suc k) n = go (ltb n 10) (within k (n / 10))
  where
    go : (p : Bool) → length (decimal_in k (n / 10)) ≤ k → length (cond p ((48 + n) ∷ []) (decimal_in k (n / 10) ++ ((48 + n % 10) ∷ []))) ≤ suc k
    go true h = omega arith
    go false h = rw (length-append (decimal_in k (n / 10)) ((48 + n % 10) ∷ [])) (omega arith)

pub decimal_length : (n : ℕ) → length (decimal n) ≤ 20
unfolding decimal
decimal_length n = within 20 n

-- one run after another
pub sets_append : (l : List ℕ) (i : ℕ) (xs ys : List ℕ) → sets l i (xs ++ ys) ≡ sets (sets l i xs) (i + length xs) ys
sets_append l i [] ys = ap (λ k. sets l k ys) (omega arith)
sets_append l i (x ∷ xs) ys = sets_append (set l i x) (suc i) xs ys ∙ ap (λ k. sets (sets (set l i x) (suc i) xs) k ys) (omega arith)

pub then : {xs ys : List ℕ} {at e r : ℕ} {a b c : List ℕ} → Wrote xs at a b e → Wrote ys e b c r → Wrote (xs ++ ys) at a c r
then {xs} {ys} {at} {e} {r} {a} {b} {c} v w = record {
  buffer = w.buffer ∙ rw (v.buffer, v.end, sets_append a at xs ys);
  end = rw (length-append xs ys) (omega (arith, v.end, w.end));
}

-- one byte
pub byte : (a : List ℕ) (at b : ℕ) → Wrote (b ∷ []) at a (set a at b) (at + 1)
byte a at b = record { buffer = refl; end = refl }

pub byte_then : {ys : List ℕ} {a c : List ℕ} {r : ℕ} (at b : ℕ) → Wrote ys (at + 1) (set a at b) c r → Wrote (b ∷ ys) at a c r
byte_then {ys} {a} {c} {r} at b w = record { buffer = w.buffer ∙ rw add-one; end = omega (arith, w.end) }

-- the digits of a number, one by one
pub one_digit : (a : List ℕ) (at n : ℕ) → n < 10 → Wrote (decimal n) at a (set a at (48 + n)) (at + 1)
one_digit a at n h = rw (decimal_digit n h) (byte a at (48 + n))

pub last_digit : (n : ℕ) {a b : List ℕ} {at e : ℕ} → 10 ≤ n → n < 2 ^ 64 → Wrote (decimal (n / 10)) at a b e → Wrote (decimal n) at a (set b e (48 + n % 10)) (e + 1)
last_digit n h l w = rw (decimal_step n h l) (then w (byte _ _ _))

pub ruleset digit_by_digit = (length_digit, length_step, one_digit, last_digit)

-- runs one after another: what the buffer becomes, and how far they reach
pub ruleset run_by_run = (common_steps, sets_append, decimal_length)

-- bytes copied over a part of a buffer
pub copied : (a k : ℕ) (l xs ys : List ℕ) → ys ≡ xs → k ≡ length xs → a + length xs ≤ length l → put_mid a k l ys ≡ sets l a xs
copied a k l xs ys e f h = rw (e, f, sets-eq xs l a h, append_assoc, drop-drop (length xs) a l)

-- no line is longer than the longest
pub answer_length : (a : Answer) → length (answer_text a) ≤ longest_answer
answer_length (Refused n) = simp length-append (omega (arith, decimal_length n))
answer_length Done = omega arith
answer_length (Value v) = simp length-append (omega (arith, decimal_length v))
answer_length (Swept x y z) = simp length-append (omega (arith, decimal_length x, decimal_length y, decimal_length z))

pub bad_length : (n : ℕ) → length (bad_text n) ≤ longest_answer
bad_length n = simp length-append (omega (arith, decimal_length n))

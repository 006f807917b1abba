-- `units::Address::names_word` meets its contract. Below the first address the word is 0, whose address is the first and not this one; from it on,
-- an address is that of its word exactly if it is a multiple of 8, since the first address is.
use Prim.Native.Nat.{ℕ, ◌%◌, ◌≤◌}
use mathlib.Core.Path.{◌≡◌, sym}
use native.Mathlib.Omega.{arith}
use lib.Dec.{eqb}
use borrow.Author.Tests.{ne_eqb}
use Rattle.model.proofs.Tests.{same_test, eqb_iff}
use Rattle.model.specs.Memory.{first_address, word_bytes, address_of, word_of}
use Rattle.units.proofs.Address.names_word.Goals as goal

multiple : (a : ℕ) → first_address ≤ a → eqb (a % word_bytes) 0 ≡ eqb a (address_of (word_of a))
multiple a h =
    same_test (eqb (a % word_bytes) 0) (eqb a (address_of (word_of a)))
    (λ t. (eqb_iff a (address_of (word_of a))).1 (omega (arith, (eqb_iff (a % word_bytes) 0).0 t)))
    (λ t. (eqb_iff (a % word_bytes) 0).1 (omega (arith, (eqb_iff a (address_of (word_of a))).0 t)))

pub returns-then-self-lt-FIRST_ADDRESS : goal.returns-then-self-lt-FIRST_ADDRESS
returns-then-self-lt-FIRST_ADDRESS c = let a = c.args.self.0 in sym (ne_eqb a (address_of (word_of a)) (omega arith))

pub returns : goal.returns
returns c = multiple c.args.self.0 (omega arith)

-- A table that is computed from a rule, and what is read in it.
use Prim.Native.Nat.{ℕ, zero, suc, ◌+◌, ◌<◌}
use mathlib.Core.List.{List, [], ◌∷◌}
use mathlib.Core.Path.{◌≡◌, ap, ◌∙◌}
use native.Mathlib.Omega.{arith}
use lib.ListN.{get_or}

-- what the rule says of the n numbers from k on
unfoldable pub entries : ℕ → ℕ → (ℕ → ℕ) → List ℕ
entries zero k rule = []
entries (suc n) k rule = rule k ∷ entries n (suc k) rule

entry_from : (n k : ℕ) (rule : ℕ → ℕ) (i : ℕ) → i < n → get_or (entries n k rule) i 0 ≡ rule (k + i)
unfolding entries
entry_from zero k rule i l = absurd (omega arith)
entry_from (suc n) k rule zero l = ap rule (omega arith)
entry_from (suc n) k rule (suc i) l = entry_from n (suc k) rule i (omega arith) ∙ ap rule (omega arith)

pub entry_at : (n : ℕ) (rule : ℕ → ℕ) (i : ℕ) → i < n → get_or (entries n 0 rule) i 0 ≡ rule i
entry_at n rule i l = entry_from n 0 rule i l ∙ ap rule (omega arith)

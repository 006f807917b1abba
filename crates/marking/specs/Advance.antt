-- PROGRESS, as a claim of one call: a scan of a gray stack, a scan of the gray globals and a mark step each lower what is left to mark; a sweep step
-- that meets an allocated record lowers what is left to sweep. The first is at most the number of stacks, one, and the allocated records, the second at
-- most the allocated records (proofs/Advance.antt, which proves the claim). Read Claim before it.
use Rattle.std.specs.Prelude.{Bool, not, ◌&&◌, ◌≡◌, ℕ, suc, ◌+◌, ◌≤◌, ◌<◌, T}
use Rattle.model.specs.Bounded.{count_below}
use Rattle.model.specs.Memory.{word_of}
use Rattle.marking.specs.Effect.{as_number}
use Rattle.marking.specs.Count.{count}
use Rattle.marking.specs.WordHeap.{WordHeap}
use Rattle.marking.specs.WordHeap
use Rattle.marking.specs.Event.{Event}
use Rattle.marking.specs.Event
use Rattle.marking.specs.Ledger.{Ledger, feed}
use Rattle.marking.specs.Trace.{Step}
use Rattle.marking.specs.Claim.{is_allocated}

-- a record is black: marked and not gray
abbrev pub is_black : Ledger → WordHeap → ℕ → Bool
is_black L H x = H.bits.marked (word_of (L.address x)) && not (H.bits.gray (word_of (L.address x)))

-- what is left to mark: gray stacks, of n; gray globals; and the allocated records that are not black
unfoldable pub to_mark : ℕ → Ledger → WordHeap → ℕ
to_mark n L H = count_below n H.bits.gray_stack + as_number H.bits.gray_globals + count (λ x. is_allocated L H x && not (is_black L H x))
    (suc L.count)

-- what is left to sweep: the allocated records in unswept spans
unfoldable pub to_sweep : Ledger → WordHeap → ℕ
to_sweep L H = count (λ x. is_allocated L H x && H.unswept (word_of (L.address x))) (suc L.count)

-- the calls of the mark phase that do something
pub data Advances (n : ℕ) (H : WordHeap) : Event → Type 0 where
  scan : (s : ℕ) → s < n → T (H.bits.gray_stack s) → Advances n H (Event.scan_stack s)
  globals : T H.bits.gray_globals → Advances n H Event.scan_globals
  step : Advances n H Event.mark_step

-- THE CLAIM of a heap H that a list of calls has left, where L is the ledger
pub record Advancing (H : WordHeap) (L : Ledger) : Type 0 where
  -- what is left to mark, of n stacks, and to sweep
  pub to_mark_bound : (n : ℕ) → to_mark n L H ≤ n + 1 + count (is_allocated L H) (suc L.count)
  pub to_sweep_bound : to_sweep L H ≤ count (is_allocated L H) (suc L.count)
  -- in the mark phase, of n stacks
  pub marks : (n : ℕ) {e : Event} {H' : WordHeap} → H.phase ≡ WordHeap.mark → Step H e H' → Advances n H e → to_mark n (feed e L) H' < to_mark n L H
  -- in the sweep phase: where an allocated word is unswept before a sweep step and not after it
  pub sweeps : {H' : WordHeap} → Step H Event.sweep_step H' → (w : ℕ) → T (H.allocated w) → T (H.unswept w) → T (not (H'.unswept w)) → to_sweep L H' < to_sweep L H

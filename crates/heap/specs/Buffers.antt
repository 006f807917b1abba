-- The four lent buffers as one value: the heap that they are, what is said of them at entry and at exit, and that they stay the same.
use Rattle.std.specs.Prelude.{ℕ, ◌≡◌, length}
use Rattle.model.specs.Memory.{Heap, lent}
use Rattle.model.specs.Promises.{Buffer}
use Rattle.heap.specs.declared.Buffers.{Buffers}

-- the heap of p pages that they are
abbrev pub found_in : ℕ → Buffers → Heap
found_in p b = lent p b.arena.now b.table.now b.bits.now b.roots.now

-- what is said of four buffers, each by its words at entry and at exit
abbrev pub on_buffers : {A : Type 1} → (Buffer → Buffer → Buffer → Buffer → A) → Buffers → Buffers → A
on_buffers said old new =
    said (record { entry = old.arena.now; exit = new.arena.now }) (record { entry = old.table.now; exit = new.table.now })
    (record { entry = old.bits.now; exit = new.bits.now }) (record { entry = old.roots.now; exit = new.roots.now })

-- they are the same four buffers, each as long as it was, whatever their words
pub record SameLoans (old new : Buffers) : Type 0 where
  pub arena : new.arena.ghost_name ≡ old.arena.ghost_name
  pub table : new.table.ghost_name ≡ old.table.ghost_name
  pub bits : new.bits.ghost_name ≡ old.bits.ghost_name
  pub roots : new.roots.ghost_name ≡ old.roots.ghost_name
  pub arena_length : length new.arena.now ≡ length old.arena.now
  pub table_length : length new.table.now ≡ length old.table.now
  pub bits_length : length new.bits.now ≡ length old.bits.now
  pub roots_length : length new.roots.now ≡ length old.roots.now

-- The page table and the bitmaps as one value that is lent to be swept: what is said of them at entry and at exit, and that they stay the same.
use Rattle.std.specs.Prelude.{ℕ, ◌≡◌, length}
use Rattle.model.specs.Promises.{Buffer}
use Rattle.room_sweeps.specs.Needs.{LentAudited}
use Rattle.room_sweeps.specs.declared.Tables.{Tables}

-- they are those of buffers that pass the audit
abbrev pub AreAudited : Tables → Type 0
AreAudited x = LentAudited x.pages x.table.now x.bits.now

-- what is said of so many pages, the page table and the bitmaps, each by its words at entry and at exit
abbrev pub on_tables : {A : Type 1} → (ℕ → Buffer → Buffer → A) → Tables → Tables → A
on_tables said old new = said old.pages (record { entry = old.table.now; exit = new.table.now }) (record { entry = old.bits.now; exit = new.bits.now })

-- they are the same page table and bitmaps, of as many pages and each as long as it was, whatever their words
pub record SameTables (old new : Tables) : Type 0 where
  pub pages : new.pages ≡ old.pages
  pub table : new.table.ghost_name ≡ old.table.ghost_name
  pub bits : new.bits.ghost_name ≡ old.bits.ghost_name
  pub table_length : length new.table.now ≡ length old.table.now
  pub bits_length : length new.bits.now ≡ length old.bits.now

-- What is said of the words of an arena, with what tells which elements are kept.
use Rattle.std.specs.Prelude.{ℕ, List}
use Rattle.audit_words.specs.declared.Words.{Words}

-- what is said of so many pages, the arena, the page table and the bitmaps, of those of the words that are audited
abbrev pub said_of : {A : Type 1} → (ℕ → List ℕ → List ℕ → List ℕ → A) → Words → A
said_of said w = said w.kept.pages w.arena.now w.kept.table.now w.kept.bits.now

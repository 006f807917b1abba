-- What the audit gives of what is lent, and what follows from it of fewer buffers.
use Prim.Native.Nat.{ℕ}
use mathlib.Core.List.{List}
use Rattle.model.specs.Memory.{Heap}
use Rattle.model.specs.Facts.{Sized, Spans, IsSpan, Bits, Audited}
use Rattle.model.specs.Lent.{Bitmaps, Tables, Mapped, MappedSpan, Consistent}

-- the lengths, with what is known of the page table, and of the bits
pub sized_mapped : {h : Heap} → Sized h → Spans h.pages h.table → Mapped h.pages h.table h.bits
sized_mapped Z F = record { few = Z.high; table = Z.table; bits = Z.bits; spans = F }

pub sized_consistent : {h : Heap} → Sized h → Spans h.pages h.table → Bits h.pages h.table h.bits → Consistent h.pages h.table h.bits
sized_consistent Z F B = record { few = Z.high; table = Z.table; bits = Z.bits; spans = F; rules = B }

-- an audited heap
pub audited_consistent : {h : Heap} → Audited h → Consistent h.pages h.table h.bits
audited_consistent A = sized_consistent A.sized A.spans A.bits

pub audited_mapped : {h : Heap} → Audited h → Mapped h.pages h.table h.bits
audited_mapped A = sized_mapped A.sized A.spans

pub audited_tables : {h : Heap} → Audited h → Tables h.pages h.table h.bits
audited_tables A = record { few = A.sized.high; table = A.sized.table; bits = A.sized.bits }

-- a span
pub mapped_span : {p : ℕ} {t b : List ℕ} → Mapped p t b → (s : ℕ) → IsSpan t s → MappedSpan p t b s
mapped_span M s e = record { few = M.few; table = M.table; bits = M.bits; spans = M.spans; first = e }

-- less of it
pub consistent_mapped : {p : ℕ} {t b : List ℕ} → Consistent p t b → Mapped p t b
consistent_mapped C = record { few = C.few; table = C.table; bits = C.bits; spans = C.spans }

pub consistent_tables : {p : ℕ} {t b : List ℕ} → Consistent p t b → Tables p t b
consistent_tables C = record { few = C.few; table = C.table; bits = C.bits }

pub mapped_bitmaps : {p : ℕ} {t b : List ℕ} → Mapped p t b → Bitmaps p b
mapped_bitmaps M = record { few = M.few; bits = M.bits }

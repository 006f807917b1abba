-- What is promised of the sweeps inside an allocation and of "no room", in the words of request [2]. Crate keeps proves it of every heap that passes
-- the audit (proofs/Room.antt there). Read Allocate before it.
use Rattle.std.specs.Prelude.{ℕ, ◌+◌, ◌<◌, ◌≤◌, not, List, [], ◌∷◌, ◌≢◌, ◌≡◌, T}
use Rattle.model.specs.Memory.{Heap, phase, unswept_flag}
use Rattle.model.specs.Answers.{refusal, no_room}
use Rattle.model.specs.Bitmaps.{is, allocated}
use Rattle.model.specs.Classes.{kind_of, pages_for}
use Rattle.model.specs.Spans.{kind_entry, is_free, elements, element_start}
use Rattle.model.specs.Cycle.{swept_span}
use Rattle.model.specs.Allocate.{swept_for_room, allocate_refusal, allocate}
use Rattle.model.specs.Facts.{IsSpan}
use Rattle.model.specs.Lent.{AllSwept}

-- heaps from h on, each the one before it with one unswept span swept
pub data Sweeps : Heap → List Heap → Type 0 where
  none : {h : Heap} → Sweeps h []
  more : {h : Heap} {gs : List Heap} (s : ℕ) → IsSpan h.table s → unswept_flag ≤ kind_entry h.table s → Sweeps (swept_span s h) gs →
      Sweeps h (swept_span s h ∷ gs)

-- no swept span of the kind has a free element (an unswept one's entry is not its kind)
abbrev pub NoElementFree : Heap → ℕ → Type 0
NoElementFree h kind =
    (s : ℕ) → IsSpan h.table s → kind_entry h.table s ≡ kind → (k : ℕ) → k < elements h.table s → T (is allocated h (element_start h.table s k))

-- no run of pages is long enough: of n pages in a row one is in a span
abbrev pub NoPagesFree : Heap → ℕ → Type 0
NoPagesFree h n = (g : ℕ) → g + n ≤ h.pages → (k : ℕ) × (k < n) × T (not (is_free h.table (g + k)))

-- an allocation on h
pub record NoRoom (h : Heap) (s i size p : ℕ) : Type 0 where
  -- "9 is given exactly when nothing fits after all that": nothing fits in what it leaves; and where nothing fits after the sweeps it is given
  pub given : refusal (allocate h s i size p).answer ≡ no_room → let g = (allocate h s i size p).heap in
      (allocate_refusal h s i size p ≡ 0) × NoElementFree g (kind_of size p) × NoPagesFree g (pages_for size)
  pub due : let g = swept_for_room h size p in
      allocate_refusal h s i size p ≡ 0 → NoElementFree g (kind_of size p) → NoPagesFree g (pages_for size) → refusal (allocate h s i size p).answer ≡ no_room
  -- "and leaves every span swept": it leaves what the sweeps left
  pub leaves : refusal (allocate h s i size p).answer ≡ no_room → AllSwept (allocate h s i size p).heap.table
  pub swept : refusal (allocate h s i size p).answer ≡ no_room → (allocate h s i size p).heap ≡ swept_for_room h size p
  -- "the one refusal that changes words"
  pub others : refusal (allocate h s i size p).answer ≢ 0 → refusal (allocate h s i size p).answer ≢ no_room → (allocate h s i size p).heap ≡ h
  -- "The phase stays sweep until a sweep step finds nothing."
  pub stays : phase (allocate h s i size p).heap ≡ phase h

-- What the sweeps for room require of the page table and the bitmaps, and what they leave, for every arena and all roots with which these are a heap
-- that passes the audit.
use Rattle.std.specs.Prelude.{ℕ, ◌≤◌, Bool, true, false, cond, ◌&&◌, List, Option, Some, None, ◌≡◌}
use Rattle.model.specs.Memory.{Heap, lent}
use Rattle.model.specs.Cycle.{swept_table, swept_bits, swept_span, nothing_left}
use Rattle.model.specs.Allocate.{has_room, best_run, element_free, pages_free, of_kind, any_span, is_next, swept_until}
use Rattle.model.specs.Facts.{Audited}
use Rattle.model.specs.Promises.{Buffer}
use Rattle.element_search.specs.Free.{FreeIn, FreeOf}
use Rattle.page_runs.specs.Found.{FoundPage}
use Rattle.units.specs.declared.Page.{Page}
use Rattle.units.specs.declared.Word.{Word}

-- they are those of buffers that pass the audit
abbrev pub LentAudited : ℕ → List ℕ → List ℕ → Type 0
LentAudited p t b = (a : List ℕ) × (o : List ℕ) × Audited (lent p a t b o)

-- no swept span of the kind has a free element; no run of n pages is free
abbrev pub NoElement : ℕ → ℕ → List ℕ → List ℕ → Type 0
NoElement kind p t b = (a o : List ℕ) → element_free kind (lent p a t b o) ≡ false

abbrev pub NoRun : ℕ → ℕ → List ℕ → Type 0
NoRun n p t = p ≤ best_run p t n

-- the page table and the bitmaps, the span at page s swept where it is to be
pub record SweptIf (next : Bool) (h : Heap) (s : ℕ) (t b : List ℕ) : Type 0 where
  pub table : t ≡ cond next (swept_table h s) h.table
  pub bits : b ≡ cond next (swept_bits h s) h.bits

-- the free element of the span of the kind at page s, once it is swept
abbrev pub FreeOnceSwept : ℕ → ℕ → Heap → Option Word → Type 0
FreeOnceSwept kind s h (Some word) = (is_next (of_kind kind) h s ≡ true) × FreeIn (swept_span s h) kind s (Some word)
FreeOnceSwept kind s h None = (is_next (of_kind kind) h s && has_room (swept_span s h) kind s) ≡ false

-- one turn: the span of the kind at page s, and the free element that it then has
pub record KindTurned (kind s : ℕ) (h : Heap) (r : Option Word) (t b : List ℕ) : Type 0 where
  pub swept : SweptIf (is_next (of_kind kind) h s) h s t b
  pub free : FreeOnceSwept kind s h r

abbrev pub KindTurn : ℕ → ℕ → ℕ → Buffer → Buffer → Option Word → Type 0
KindTurn kind s p table bits r =
    (a o : List ℕ) → KindTurned kind s (lent p a table.entry bits.entry o) r table.exit bits.exit

-- .. any span at page s, and the best run of n pages where its own were returned
pub record PagesTurned (n s : ℕ) (h : Heap) (r : Option Page) (t b : List ℕ) : Type 0 where
  pub swept : SweptIf (is_next any_span h s) h s t b
  pub run : FoundPage h.pages (cond (is_next any_span h s && nothing_left h s) (best_run h.pages (swept_table h s) n) h.pages) r

abbrev pub PageTurn : ℕ → ℕ → ℕ → Buffer → Buffer → Option Page → Type 0
PageTurn n s p table bits r =
    (a o : List ℕ) → let h = lent p a table.entry bits.entry o in
    Audited h → PagesTurned n s h r table.exit bits.exit

-- all of them: the heap is the one that the sweeps for an element leave, and its lowest free element is found
pub record KindDone (kind : ℕ) (h h' : Heap) (r : Option Word) : Type 0 where
  pub heap : h' ≡ swept_until (element_free kind) (of_kind kind) h
  pub free : FreeOf h' kind r

abbrev pub SweepsKind : ℕ → ℕ → Buffer → Buffer → Option Word → Type 0
SweepsKind kind p table bits r =
    (a o : List ℕ) → let h = lent p a table.entry bits.entry o in
    Audited h → KindDone kind h (lent p a table.exit bits.exit o) r

-- .. or the one that the sweeps for pages leave, and its best run
pub record PagesDone (n : ℕ) (h h' : Heap) (r : Option Page) : Type 0 where
  pub heap : h' ≡ swept_until (pages_free n) any_span h
  pub run : FoundPage h'.pages (best_run h'.pages h'.table n) r

abbrev pub SweepsPages : ℕ → ℕ → Buffer → Buffer → Option Page → Type 0
SweepsPages n p table bits r =
    (a o : List ℕ) → let h = lent p a table.entry bits.entry o in
    Audited h → PagesDone n h (lent p a table.exit bits.exit o) r

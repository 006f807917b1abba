-- What the parts of an allocation ask and give.
use Rattle.std.specs.Prelude.{ℕ, ◌+◌, ◌*◌, ◌<◌, ◌≤◌, Bool, List, ◌≡◌, length, set, if◌then◌else◌}
use Rattle.model.specs.Memory.{Heap, lent, page_words, root_words, put_words, address_of, page_of}
use Rattle.model.specs.Spans.{put_pages, span_page}
use Rattle.model.specs.Allocate.{new_bits}
use Rattle.model.specs.Lent.{Roots, Bitmaps}
use Rattle.model.specs.Promises.{Borrowed, Buffer}

-- the table, with a span of n pages from the page of word w on if it is still to be made
abbrev pub extended : Bool → ℕ → ℕ → ℕ → List ℕ → List ℕ
extended fresh w n kind t = if fresh then put_pages (page_of w) n (span_page (page_of w) n kind) t else t

-- a record with q pointer words from word w on, in the bitmaps of p pages
pub record MarksNew (p w q : ℕ) (b r : List ℕ) : Type 0 where
  pub bitmaps : Bitmaps p b
  pub roots : Roots r
  pub word : w < page_words * p
  pub pointers : w + q ≤ page_words * p

-- an element of n words, from word w on, in the buffers of p pages; its address goes to word i of the roots
pub record ElementFor (p w n q i : ℕ) (a b r : List ℕ) : Type 0 where
  pub marks : MarksNew p w q b r
  pub inside : w + n ≤ length a
  pub slot : i < root_words

-- .. taken: the address, and the three buffers afterwards
pub record ElementTaken (h : Heap) (w n q i : ℕ) (address : ℕ) (a b r : List ℕ) : Type 0 where
  pub value : address ≡ address_of w
  pub arena : a ≡ put_words w n (λ v. 0) h.arena
  pub bits : b ≡ new_bits h w q
  pub roots : r ≡ set h.roots i (address_of w)

-- the two, of buffers as they are lent, whatever the page table
abbrev pub CanTake : ℕ → ℕ → ℕ → ℕ → ℕ → Borrowed → Borrowed → Borrowed → Type 0
CanTake w n q i p arena bits roots = ElementFor p w n q i arena bits roots

abbrev pub TakesElement : ℕ → ℕ → ℕ → ℕ → ℕ → Buffer → Buffer → Buffer → ℕ → Type 0
TakesElement w n q i p arena bits roots address =
    (t : List ℕ) →
    ElementTaken (lent p arena.entry t bits.entry roots.entry) w n q i address
    arena.exit bits.exit roots.exit

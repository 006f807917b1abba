-- What shading asks of the values that it is given, with the page table and the bitmaps, and what it leaves.
use Rattle.std.specs.Prelude.{ℕ, ◌*◌, ◌<◌, cond, List, ◌≢◌, ◌≡◌, length, get_or}
use Rattle.model.specs.Memory.{Heap, page_words, nil}
use Rattle.model.specs.Spans.{span_of, record_of}
use Rattle.model.specs.Shading.{is_white, shade, shade_all, shade_count}
use Rattle.model.specs.Lent.{Roots, Tables}
use Rattle.model.specs.Promises.{Borrowed, Buffer, found_with}

-- the record that a value names lies in the arena, and its span starts there
pub record NamesRecord (p : ℕ) (t : List ℕ) (v : ℕ) : Type 0 where
  pub word : record_of t v < page_words * p
  pub span : span_of t (record_of t v) < p

-- a value that may be shaded: nil, or one that names a record
pub record Shadable (p : ℕ) (t b : List ℕ) (v : ℕ) : Type 0 where
  pub tables : Tables p t b
  pub named : v ≢ nil → NamesRecord p t v

-- a store's old and new value, with the roots, which have the phase
pub record Stored (p : ℕ) (t b r : List ℕ) (old new : ℕ) : Type 0 where
  pub tables : Tables p t b
  pub roots : Roots r
  pub old_named : old ≢ nil → NamesRecord p t old
  pub new_named : new ≢ nil → NamesRecord p t new

-- a list of values that may be shaded
pub record ShadableSlice (p : ℕ) (t b words : List ℕ) : Type 0 where
  pub tables : Tables p t b
  pub each : (i : ℕ) → i < length words → get_or words i 0 ≢ nil → NamesRecord p t (get_or words i 0)

-- What shading leaves: how many mark bits it turned on, and the bitmaps. One value ..
pub record Shades (p : ℕ) (t : List ℕ) (v : ℕ) (b : List ℕ) (r : ℕ) (after : List ℕ) : Type 0 where
  pub count : r ≡ cond (is_white p t v b) 1 0
  pub bits : after ≡ shade p t v b

-- .. and the first n of many
pub record ShadesAll (p : ℕ) (t : List ℕ) (n : ℕ) (value : ℕ → ℕ) (b : List ℕ) (r : ℕ) (after : List ℕ) : Type 0 where
  pub count : r ≡ shade_count p t n value b
  pub bits : after ≡ shade_all p t n value b

-- Contracts over what is lent: a store's values and a slice's, as what is required ..
abbrev pub LentStore : ℕ → Borrowed → Borrowed → Borrowed → ℕ → ℕ → Type 0
LentStore p table bits roots old new = Stored p table bits roots old new

abbrev pub LentSlice : ℕ → Borrowed → Borrowed → Borrowed → Type 0
LentSlice p table bits words = ShadableSlice p table bits words

-- .. and what is promised: the bitmaps that a function of the heap gives, for every arena; the slice's values shaded
abbrev pub LeavesBits : (Heap → List ℕ) → ℕ → Buffer → Buffer → Buffer → Type 0
LeavesBits f p table bits roots = (a : List ℕ) → bits.exit ≡ f (found_with a p table bits roots)

abbrev pub ShadesSlice : ℕ → Buffer → Buffer → Buffer → ℕ → Type 0
ShadesSlice p table bits words r =
    ShadesAll p table.entry (length words.entry) (λ i. get_or words.entry i 0) bits.entry r bits.exit

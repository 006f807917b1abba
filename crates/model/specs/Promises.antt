-- Contracts over the parameters that a function is lent. A definition takes a lent buffer whole, as the contract sees it at entry and at exit, so
-- that a contract is one line that names what is done: another buffer would be a parameter here and one in each signature. First what functions
-- require, which see a buffer at entry alone; then what they promise.
use Rattle.std.specs.Prelude.{ℕ, List, ◌≡◌}
use Rattle.std.specs.Borrow.{Bor, MutBor}
use denote.Triple.Both.{Both}
use Rattle.model.specs.Memory.{Heap, lent}
use Rattle.model.specs.Answers.{Outcome, Meets}
use Rattle.model.specs.Calls.{entry_refusal, run}
use Rattle.model.specs.Facts.{Sized, Audited}
use Rattle.model.specs.declared.Answer.{Answer}
use Rattle.model.specs.declared.Call.{Call}

-- a lent buffer, as what a function requires sees it: its words ..
abbrev pub Borrowed : Type 0
Borrowed = List ℕ

-- .. and as what it promises sees it: the words at entry and those at exit
pub record Buffer : Type 0 where
  pub entry : List ℕ
  pub exit : List ℕ

-- one that is lent as `&mut`; and one that is lent as `&`, which is at exit what it was at entry
abbrev pub exclusive : Both (MutBor (List ℕ)) (MutBor (List ℕ)) → Buffer
exclusive buffer = record { entry = buffer.entry.now; exit = buffer.exit.now }

abbrev pub shared : Both (Bor (List ℕ)) (Bor (List ℕ)) → Buffer
shared buffer = record { entry = buffer.entry.now; exit = buffer.exit.now }

-- the entry of a call let it in
abbrev pub Entered : Call → ℕ → Borrowed → Borrowed → Borrowed → Borrowed → Type 0
Entered c p arena table bits roots = entry_refusal (lent p arena table bits roots) c ≡ 0

-- the four buffers have the lengths that P asks for
abbrev pub SizedHeap : ℕ → Borrowed → Borrowed → Borrowed → Borrowed → Type 0
SizedHeap p arena table bits roots = Sized (lent p arena table bits roots)

-- the audit has passed the four buffers
abbrev pub AuditedHeap : ℕ → Borrowed → Borrowed → Borrowed → Borrowed → Type 0
AuditedHeap p arena table bits roots = Audited (lent p arena table bits roots)

-- the audit has passed the three, with some arena
abbrev pub AuditedTables : ℕ → Borrowed → Borrowed → Borrowed → Type 0
AuditedTables p table bits roots = (a : List ℕ) × Audited (lent p a table bits roots)

-- the heap that a function finds
abbrev pub found : ℕ → Buffer → Buffer → Buffer → Buffer → Heap
found p arena table bits roots = lent p arena.entry table.entry bits.entry roots.entry

-- the same, with whatever arena
abbrev pub found_with : List ℕ → ℕ → Buffer → Buffer → Buffer → Heap
found_with a p table bits roots = lent p a table.entry bits.entry roots.entry

-- the answer and the four buffers are those of a call's outcome
abbrev pub Does : (Heap → Outcome) → ℕ → Buffer → Buffer → Buffer → Buffer → Answer → Type 0
Does call p arena table bits roots r =
    Meets (call (found p arena table bits roots)) r arena.exit table.exit bits.exit roots.exit

-- so they are for every arena, of a call that is not lent it
abbrev pub DoesWithoutArena : (Heap → Outcome) → ℕ → Buffer → Buffer → Buffer → Answer → Type 0
DoesWithoutArena call p table bits roots r =
    (a : List ℕ) → Meets (call (found_with a p table bits roots)) r a table.exit bits.exit roots.exit

-- so they are for every P and every content of the other three, of a call that is lent the roots alone
abbrev pub DoesByRoots : (Heap → Outcome) → Buffer → Answer → Type 0
DoesByRoots call roots r = (p : ℕ) (a t b : List ℕ) → Meets (call (lent p a t b roots.entry)) r a t b roots.exit

-- the number that a function of the heap gives by the roots alone
abbrev pub GivesByRoots : (Heap → ℕ) → Buffer → ℕ → Type 0
GivesByRoots f roots n = (p : ℕ) (a t b : List ℕ) → n ≡ f (lent p a t b roots.entry)

-- the roots that a change of the heap leaves, by the roots alone
abbrev pub LeavesRoots : (Heap → Heap) → Buffer → Type 0
LeavesRoots change roots = (p : ℕ) (a t b : List ℕ) → roots.exit ≡ (change (lent p a t b roots.entry)).roots

-- what is said of the heap that a function finds, by the page table and the bitmaps alone ..
abbrev pub ByTables : (Heap → Type 0) → ℕ → Buffer → Buffer → Type 0
ByTables said p table bits = (a o : List ℕ) → said (lent p a table.entry bits.entry o)

-- .. by the bitmaps alone ..
abbrev pub ByBits : (Heap → Type 0) → ℕ → Buffer → Type 0
ByBits said p bits = (a t o : List ℕ) → said (lent p a t bits.entry o)

-- .. and by the bitmaps and the roots
abbrev pub ByBitsAndRoots : (Heap → Type 0) → ℕ → Buffer → Buffer → Type 0
ByBitsAndRoots said p bits roots = (a t : List ℕ) → said (lent p a t bits.entry roots.entry)

-- what is said of three buffers as a function finds them
abbrev pub at_entry : {A : Type 1} → (List ℕ → List ℕ → List ℕ → A) → Buffer → Buffer → Buffer → A
at_entry said x y z = said x.entry y.entry z.entry

-- what a public call promises, for every input: the entry check, and then the call
abbrev pub Makes : Call → ℕ → Buffer → Buffer → Buffer → Buffer → Answer → Type 0
Makes c p arena table bits roots r = Does (λ h. run h c) p arena table bits roots r

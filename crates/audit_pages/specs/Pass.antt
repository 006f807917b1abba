-- What the audit's pass over the page table says: of the whole table, of the entry of a page that starts no span, and of one span.
use Rattle.std.specs.Prelude.{ℕ, ◌+◌, ◌<◌, ◌≤◌, List, ◌≢◌, ◌≡◌}
use Rattle.model.specs.Memory.{unswept_flag, sweep}
use Rattle.model.specs.Spans.{owner, page_count, kind_entry}
use Rattle.model.specs.Facts.{Spans, GoodEntry}
use Rattle.model.specs.Lent.{AllSwept}

-- the page table of p pages is as the document says, and "unswept only in phase sweep"
pub record GoodPages (p ph : ℕ) (t : List ℕ) : Type 0 where
  pub spans : Spans p t
  pub swept : ph ≢ sweep → AllSwept t

-- the entry of page g has neither a page count nor a kind
abbrev pub BareEntry : List ℕ → ℕ → Type 0
BareEntry t g = (page_count t g ≡ 0) × (kind_entry t g ≡ 0)

-- page g is a further page of the span at page s: "s+1, 0, 0"
pub record Further (t : List ℕ) (s g : ℕ) : Type 0 where
  pub owned : owner t g ≡ s + 1
  pub bare : BareEntry t g

-- the pages of the span at page s after its first
abbrev pub Body : List ℕ → ℕ → Type 0
Body t s = (g : ℕ) → s < g → g < s + page_count t s → Further t s g

-- what is asked of a span that starts at page s
pub record GoodSpan (p ph : ℕ) (t : List ℕ) (s : ℕ) : Type 0 where
  pub entry : GoodEntry (kind_entry t s) (page_count t s)
  pub inside : s + page_count t s ≤ p
  pub body : Body t s
  pub swept : ph ≢ sweep → kind_entry t s < unswept_flag

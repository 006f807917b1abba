-- Writing entries of a page table: one of which a part stays, and a run of them, one after the other.
use Prim.Native.Nat.{ℕ, ◌+◌, ◌*◌}
use mathlib.Core.List.{List}
use mathlib.Core.Path.{◌≡◌, ◌∙◌}
use lib.ListN.{set}
use lib.Seq.{set-get_or}
use Rattle.model.specs.Memory.{entry_numbers, count_offset, kind_offset}
use Rattle.model.specs.Spans.{owner, page_count, kind_entry, Entry, put_page, put_pages}
use Rattle.std.proofs.Common.{add-zero}
use Rattle.model.proofs.Bounded.{run_none, run_step}

-- owner and page count stay: only the kind is set
pub put_kind : (g : ℕ) (e : Entry) (t : List ℕ) → e.owner ≡ owner t g → e.count ≡ page_count t g → put_page g e t ≡ set t (entry_numbers * g + kind_offset) e.kind
unfolding put_page owner page_count
put_kind g e t p q = rw (p, set-get_or t (entry_numbers * g) 0, q, set-get_or t (entry_numbers * g + count_offset) 0)

-- all three stay
pub put_same : (g : ℕ) (e : Entry) (t : List ℕ) → e.owner ≡ owner t g → e.count ≡ page_count t g → e.kind ≡ kind_entry t g → put_page g e t ≡ t
unfolding kind_entry
put_same g e t p q r = put_kind g e t p q ∙ rw (r, set-get_or t (entry_numbers * g + kind_offset) 0)

-- a run of one entry
pub one_written : (s : ℕ) (f : ℕ → Entry) (t : List ℕ) → put_pages s 1 f t ≡ put_page s (f s) t
one_written s f t = rw (run_step put_page s 0 f t, add-zero s, run_none put_page s f t)

-- after the first k entries of a run from page s on, page g's is the next
pub next_written : (s k g : ℕ) (f : ℕ → Entry) (t old now : List ℕ) → old ≡ put_pages s k f t → g ≡ s + k → now ≡ put_page g (f g) old → now ≡ put_pages s (k + 1) f t
next_written s k g f t old now w e p = rw (run_step put_page s k f t, ← w, ← e) p

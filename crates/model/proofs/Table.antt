-- Laws of the page table: what is read after one entry was written, and after a run of them.
use Prim.Native.Nat.{ℕ, ◌+◌, ◌*◌, ◌<◌, ◌≤◌}
use mathlib.Core.List.{List}
use mathlib.Core.Bool.{Bool, true, false, cond, ◌&&◌}
use mathlib.Core.Path.{◌≡◌, refl, sym, ◌∙◌, ap}
use native.Mathlib.Nat.{add-zero}
use native.Mathlib.Omega.{arith}
use lib.ListN.{get_or, set, length-set}
use lib.Dec.{eqb}
use borrow.Author.Tests.{eq-eqb, ne_eqb, eqb-true, eqb-false}
use Rattle.model.specs.Memory.{entry_numbers, count_offset, kind_offset}
use Rattle.model.specs.Spans.{owner, page_count, kind_entry, Entry, put_page, put_pages}
use Rattle.model.specs.Lent.{PageTable}
use Rattle.model.proofs.Bounded.{within, run_ok, run_read}
use Rattle.model.proofs.Words.{set_at}

pub page_length : (P g : ℕ) (e : Entry) (t : List ℕ) → g < P → PageTable P t → PageTable P (put_page g e t)
unfolding put_page
page_length P g e t h k = simp length-set k

-- two numbers of a table are in one column, c of it, only in one entry
column : (c x g : ℕ) → eqb (entry_numbers * x + c) (entry_numbers * g + c) ≡ eqb x g
column c x g = go (eqb x g) refl
  where
    go : (b : Bool) → eqb x g ≡ b → eqb (entry_numbers * x + c) (entry_numbers * g + c) ≡ b
    go true e = eq-eqb (entry_numbers * x + c) (entry_numbers * g + c) (omega (arith, eqb-true x g e))
    go false e = ne_eqb (entry_numbers * x + c) (entry_numbers * g + c) (λ z. eqb-false x g e (omega arith))

first_column : (x g : ℕ) → eqb (entry_numbers * x) (entry_numbers * g) ≡ eqb x g
first_column x g = ap (λ y. eqb y (entry_numbers * g)) (sym (add-zero (entry_numbers * x))) ∙ ap (eqb (entry_numbers * x + 0)) (sym (add-zero (entry_numbers * g))) ∙ column 0 x g

-- number i of a table after page g's entry was written
three : (t : List ℕ) (P g : ℕ) (e : Entry) → g < P → PageTable P t → (i : ℕ) → get_or (put_page g e t) i 0 ≡
    cond (eqb i (entry_numbers * g + kind_offset)) e.kind (cond (eqb i (entry_numbers * g + count_offset)) e.count (cond (eqb i (entry_numbers * g)) e.owner (get_or t i 0)))
unfolding put_page
three t P g e h k i = rw (
  set_at (set (set t (entry_numbers * g) e.owner) (entry_numbers * g + count_offset) e.count) (entry_numbers * g + kind_offset) e.kind (simp length-set (omega arith)) i,
  set_at (set t (entry_numbers * g) e.owner) (entry_numbers * g + count_offset) e.count (simp length-set (omega arith)) i,
  set_at t (entry_numbers * g) e.owner (omega arith) i,
)

pub owner_put : (P g : ℕ) (e : Entry) (t : List ℕ) → g < P → PageTable P t → (x : ℕ) → owner (put_page g e t) x ≡ cond (true && eqb x g) e.owner (owner t x)
unfolding owner
owner_put P g e t h k x = rw (three t P g e h k (entry_numbers * x), ne_eqb (entry_numbers * x) (entry_numbers * g + kind_offset) (omega arith), ne_eqb (entry_numbers * x) (entry_numbers * g + count_offset) (omega arith), first_column x g)

pub count_put : (P g : ℕ) (e : Entry) (t : List ℕ) → g < P → PageTable P t → (x : ℕ) → page_count (put_page g e t) x ≡ cond (true && eqb x g) e.count (page_count t x)
unfolding page_count
count_put P g e t h k x = rw (three t P g e h k (entry_numbers * x + count_offset), ne_eqb (entry_numbers * x + count_offset) (entry_numbers * g + kind_offset) (omega arith), column count_offset x g, ne_eqb (entry_numbers * x + count_offset) (entry_numbers * g) (omega arith))

pub kind_put : (P g : ℕ) (e : Entry) (t : List ℕ) → g < P → PageTable P t → (x : ℕ) → kind_entry (put_page g e t) x ≡ cond (true && eqb x g) e.kind (kind_entry t x)
unfolding kind_entry
kind_put P g e t h k x = rw (three t P g e h k (entry_numbers * x + kind_offset), column kind_offset x g, ne_eqb (entry_numbers * x + kind_offset) (entry_numbers * g + count_offset) (omega arith), ne_eqb (entry_numbers * x + kind_offset) (entry_numbers * g) (omega arith))

-- .. and after a run of entries
module _ (P s n : ℕ) (g : ℕ → Entry) (t : List ℕ) (h : s + n ≤ P) (k : PageTable P t) where
  pub pages_length : PageTable P (put_pages s n g t)
  pages_length = run_ok (PageTable P) P owner put_page true (λ e. e.owner) (page_length P) (owner_put P) s n g t h k

  pub pages_owner : (x : ℕ) → owner (put_pages s n g t) x ≡ cond (within s n x) (g x).owner (owner t x)
  pages_owner = run_read (PageTable P) P owner put_page true (λ e. e.owner) (page_length P) (owner_put P) s n g t h k

  pub pages_count : (x : ℕ) → page_count (put_pages s n g t) x ≡ cond (within s n x) (g x).count (page_count t x)
  pages_count = run_read (PageTable P) P page_count put_page true (λ e. e.count) (page_length P) (count_put P) s n g t h k

  pub pages_kind : (x : ℕ) → kind_entry (put_pages s n g t) x ≡ cond (within s n x) (g x).kind (kind_entry t x)
  pages_kind = run_read (PageTable P) P kind_entry put_page true (λ e. e.kind) (page_length P) (kind_put P) s n g t h k

-- Every span becomes unswept, page by page.
use Prim.Native.Nat.{ℕ, ◌+◌, ◌*◌, ◌<◌}
use mathlib.Core.List.{List}
use mathlib.Core.Path.{◌≡◌, sym, ◌∙◌}
use native.Mathlib.Omega.{arith}
use lib.ListN.{set}
use borrow.Author.Tests.{eq-eqb, ne_eqb}
use Rattle.model.specs.Memory.{entry_numbers, kind_offset, unswept_flag}
use Rattle.model.specs.Spans.{owner, page_count, kind_entry, put_pages}
use Rattle.model.specs.Cycle.{unswept_page}
use Rattle.model.proofs.Bounded.{within_high}
use Rattle.model.specs.Lent.{PageTable}
use Rattle.model.proofs.Table.{pages_owner, pages_count, pages_kind}
use Rattle.page_entries.proofs.Entries.{next_written, put_kind, put_same}

-- page g's entry is the same in two tables
pub record SameEntry (g : ℕ) (t now : List ℕ) : Type 0 where
  pub owners : owner now g ≡ owner t g
  pub counts : page_count now g ≡ page_count t g
  pub kinds : kind_entry now g ≡ kind_entry t g

-- the entries below page g were written: g's is as before
module _ (p : ℕ) (t now : List ℕ) (g : ℕ) (w : now ≡ put_pages 0 g (unswept_page t) t) (h : PageTable p t) (l : g < p) where
  pub same : SameEntry g t now
  same = record {
    owners = rw (w, pages_owner p 0 g (unswept_page t) t (omega arith) h g, within_high 0 g g (omega arith));
    counts = rw (w, pages_count p 0 g (unswept_page t) t (omega arith) h g, within_high 0 g g (omega arith));
    kinds = rw (w, pages_kind p 0 g (unswept_page t) t (omega arith) h g, within_high 0 g g (omega arith));
  }

  -- a span starts at page g
  pub flagged : owner now g ≡ g + 1 → set now (entry_numbers * g + kind_offset) (kind_entry now g + unswept_flag) ≡ put_pages 0 (g + 1) (unswept_page t) t
  flagged e =
      next_written 0 g g (unswept_page t) t now _ w (omega arith)
      (sym (put_kind g (unswept_page t g) now (sym same.owners) (sym same.counts) ∙ rw (eq-eqb (owner t g) (g + 1) (sym same.owners ∙ e), same.kinds)))

  -- none does
  pub left : (owner now g ≡ g + 1 → ⊥) → now ≡ put_pages 0 (g + 1) (unswept_page t) t
  left d =
      next_written 0 g g (unswept_page t) t now now w (omega arith)
      (sym (put_same g (unswept_page t g) now (sym same.owners) (sym same.counts) (rw (ne_eqb (owner t g) (g + 1) (λ e. d (same.owners ∙ e)), same.kinds) (omega arith))))

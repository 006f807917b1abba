-- Pages that come free where no run was long enough: a run that is long enough now is the one around them, so that no other need be looked at.
use Prim.Native.Nat.{ℕ, ◌+◌, ◌-◌, ◌<◌, ◌≤◌}
use mathlib.Core.Bool.{Bool, true, false, cond, true≢false}
use mathlib.Core.List.{List}
use mathlib.Core.Path.{◌≡◌, refl, ap, sym, ◌∙◌}
use native.Mathlib.Omega.{arith}
use lib.Dec.{leb, ltb}
use borrow.Author.Tests.{ne_eqb, ltb-true, ltb-false, leb-true, leb-false}
use Rattle.model.specs.Bounded.{first_below}
use Rattle.model.specs.Memory.{Heap}
use Rattle.model.specs.Spans.{page_count, is_free}
use Rattle.model.specs.Cycle.{swept_table, nothing_left}
use Rattle.model.specs.Allocate.{run_length, is_shortest, best_run}
use Rattle.model.specs.Facts.{IsSpan, Audited}
use Rattle.model.proofs.Bounded.{within, within_yes, within_true, first_props}
use Rattle.keeps.proofs.SweptTable.{outside, gone}
use Rattle.keeps.proofs.Room.{best_there}
use Rattle.page_runs.specs.Around.{run_start, run_around}
use Rattle.page_runs.proofs.Allocate.{run_within, run_free, best_fits, best_long, best_starts}
use Rattle.page_runs.proofs.Around.{start_is}

module _ {h : Heap} (F : Audited h) (s : ℕ) (span : IsSpan h.table s) (left : nothing_left h s ≡ true) (n : ℕ) (some : 0 < n)
    (none : h.pages ≤ best_run h.pages h.table n) where
  abbrev P : ℕ
  P = h.pages

  abbrev t : List ℕ
  t = h.table

  abbrev u : List ℕ
  u = swept_table h s

  abbrev k : ℕ
  k = page_count h.table s

  -- n free pages in a row have one of the returned pages among them
  touches : (r : ℕ) → r + n ≤ P → ((j : ℕ) → j < n → is_free u (r + j) ≡ true) → (j : ℕ) × (j < n) × (within s k (r + j) ≡ true)
  touches r l f = go (ltb (first_below n returned) n) refl
    where
      returned : ℕ → Bool
      returned j = within s k (r + j)

      go : (b : Bool) → ltb (first_below n returned) n ≡ b → (j : ℕ) × (j < n) × (within s k (r + j) ≡ true)
      go true e = let m = ltb-true (first_below n returned) n e in (first_below n returned, m, (first_props n returned).holds m)
      go false e =
          absurd (omega (
            arith,
            best_there P t n r some l (λ j m.
                rw (outside F s span (r + j) ((first_props n returned).before j (omega (arith, ltb-false (first_below n returned) n e)))).0 at (f j m)),
          ))

  -- the best run now, if there is one, is the one around them
  around : best_run P u n < P → run_start u s ≡ best_run P u n
  around l = go (leb r s) refl
    where
      r : ℕ
      r = best_run P u n

      long : n ≤ run_length P u (best_run P u n)
      long = best_long P u n l

      free : (x : ℕ) → best_run P u n ≤ x → x < best_run P u n + run_length P u (best_run P u n) → is_free u x ≡ true
      free = run_free P u (best_run P u n)

      x : (j : ℕ) × (j < n) × (within s k (best_run P u n + j) ≡ true)
      x = touches (best_run P u n) (best_fits P u n l) (λ j m. free (r + j) (omega arith) (omega (arith, long)))

      go : (b : Bool) → leb (best_run P u n) s ≡ b → run_start u s ≡ best_run P u n
      go true e =
          let w = within_true s k (r + x.0) x.2 in
          start_is u r s (leb-true r s e) (λ y a b. free y a (omega (arith, long, w, x.1))) (best_starts P u n l)
      go false e =
          let m = leb-false r s e in
          let w = within_true s k (r + x.0) x.2 in
          let g = (gone F s span left (r - 1) (within_yes s k (r - 1) (omega arith) (omega (arith, w)))).0 in
          absurd (true≢false (sym (best_starts P u n l) ∙ rw (ne_eqb r 0 (omega arith), g)))

  -- .. and there is one exactly where that one is long enough
  pub best_around : best_run P u n ≡ run_around P u s n
  best_around = go (leb n (run_length P u (run_start u s))) refl (ltb (best_run P u n) P) refl
    where
      most : best_run P u n ≤ P
      most = unfold best_run in (first_props P (is_shortest P u n)).within

      go : (a : Bool) → leb n (run_length P u (run_start u s)) ≡ a → (b : Bool) → ltb (best_run P u n) P ≡ b → best_run P u n ≡ cond a (run_start u s) P
      go true e true q = sym (around (ltb-true (best_run P u n) P q))
      go true e false q =
          let m = leb-true n (run_length P u (run_start u s)) e in
          absurd (omega (
            arith,
            ltb-false (best_run P u n) P q,
            best_there P u n (run_start u s) some (omega (arith, run_within P u (run_start u s)))
                (λ j y. run_free P u (run_start u s) (run_start u s + j) (omega arith) (omega arith)),
          ))
      go false e true q =
          let l = ltb-true (best_run P u n) P q in
          absurd (omega (arith, leb-false n (run_length P u (run_start u s)) e, best_long P u n l, ap (run_length P u) (around l)))
      go false e false q = omega (arith, ltb-false (best_run P u n) P q, most)

-- The scans: what may be shaded in audited buffers, and the outcome of shading it.
use Prim.Native.Nat.{ℕ, ◌+◌, ◌<◌, ◌≤◌}
use mathlib.Core.List.{List}
use mathlib.Core.Path.{◌≡◌}
use native.Mathlib.Omega.{arith}
use lib.ListN.{get_or, set}
use borrow.Author.Tests.{eq-eqb}
use Rattle.model.specs.Memory.{lent, first_state, root_words, open_state, gray_state}
use Rattle.model.specs.Answers.{Meets}
use Rattle.model.specs.Cycle.{scan_outcome}
use Rattle.model.specs.declared.Answer.TheVariants.{Value}
use Rattle.model.specs.Facts.{Audited}
use Rattle.model.proofs.Lent.{audited_tables}
use Rattle.model.proofs.Outcomes.{meets}
use Rattle.shading.specs.Needs.{ShadesAll}
use Rattle.shading.proofs.References.{reference_named, part_shadable}
use Rattle.call_cycle_roots.specs.Needs.{Scannable}

pub scannable : {p : ℕ} {a t b r : List ℕ} → Audited (lent p a t b r) → (from n at : ℕ) → from + n ≤ first_state → at < root_words → Scannable p t b r from n at
scannable {p} {a} {t} {b} {r} A from n at l m =
    record {
      values = part_shadable (audited_tables A) r from (from + n) (omega (arith, A.sized.roots))
          (λ k i h d. reference_named A.spans A.bits (get_or r k 0) (A.references.root k (omega arith)) d);
      inside = omega arith;
      roots = A.sized.roots;
      state = m;
    }

pub scan_all : (p : ℕ) (a t b r : List ℕ) (from n at : ℕ) → get_or r at 0 ≡ gray_state → {count : ℕ} {b' : List ℕ} → ShadesAll p t n (λ i. get_or r (from + i) 0) b count b' →
    Meets (scan_outcome 0 n (λ i. get_or r (from + i) 0) at (lent p a t b r)) (Value count) a t b' (set r at open_state)
scan_all p a t b r from n at e S = meets {p = p} (rw (eq-eqb (get_or r at 0) gray_state e, S.count, S.bits))

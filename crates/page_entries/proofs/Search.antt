-- The search for an unswept span.
use Prim.Native.Nat.{ℕ, ◌+◌, ◌<◌, ◌≤◌}
use mathlib.Core.Bool.{false, ◌&&◌}
use mathlib.Core.Path.{◌≡◌}
use native.Mathlib.Omega.{arith}
use mathlib.Core.List.{List}
use Rattle.model.specs.Spans.{owner, kind_entry, starts_span, is_unswept}
use Rattle.model.specs.Memory.{unswept_flag}
use Rattle.model.specs.Cycle.{first_unswept}
use Rattle.model.proofs.Tests.{is_true, and_iff, eqb_iff, leb_iff}
use Rattle.model.proofs.Bounded.{first_is, first_props}
use Rattle.page_entries.specs.Unswept.{UnsweptAt, FirstUnswept}
use Rattle.page_table.specs.declared.Span.{Span}
use Rattle.std.specs.Prelude.{Some, None}

-- the first unswept span is one
pub unswept_at_lem : (p : ℕ) (t : List ℕ) → first_unswept p t < p → (owner t (first_unswept p t) ≡ first_unswept p t + 1) × (unswept_flag ≤ kind_entry t (first_unswept p t))
unfolding first_unswept
unswept_at_lem p t l =
    let r = first_unswept p t in
    let b = (and_iff (starts_span t r) (is_unswept t r)).0 (is_true _ ((first_props p (λ s. starts_span t s && is_unswept t s)).holds l)) in
    ((eqb_iff _ _).0 b.0, (leb_iff _ _).0 b.1)

-- page s is the lowest at which one does, or there is none
module _ (p : ℕ) (t : List ℕ) where
  pub lowest : (s : ℕ) (span : Span) → s < p → ((k : ℕ) → k < s → (starts_span t k && is_unswept t k) ≡ false) → UnsweptAt t s (Some span) → FirstUnswept p t (Some span)
  unfolding first_unswept
  lowest s span l f x =
      let e : first_unswept p t ≡ s = first_is p _ s (record { within = omega arith; before = f; holds = λ _. x.0 }) in
      rw e (l, x.1)

  pub none : ((k : ℕ) → k < p → (starts_span t k && is_unswept t k) ≡ false) → FirstUnswept p t None
  unfolding first_unswept
  none f =
      let e : first_unswept p t ≡ p = first_is p _ p (record { within = omega arith; before = f; holds = λ q. absurd (omega arith) }) in
      omega (arith, e)

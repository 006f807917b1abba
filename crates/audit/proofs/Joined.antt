-- The parts of the audit joined: what each part may assume of those before it, and what a part that says no, or the last that says yes, comes to.
use Prim.Native.Nat.{ℕ}
use mathlib.Core.Bool.{Bool, true, false, not}
use mathlib.Core.List.{List}
use mathlib.Core.Logic.{◌≢◌}
use mathlib.Core.Path.{◌≡◌, refl}
use lib.Dec.{T, eqb}
use lib.ListN.{get_or}
use borrow.Author.Tests.{eqb-false, not-true}
use Rattle.model.specs.Memory.{Heap, phase_at, sweep}
use Rattle.model.specs.Audit.{audit}
use Rattle.model.proofs.Tests.{is_true, same_test}
use Rattle.model.specs.Facts.{Spans, Sized, Bits, States, Audited}
use Rattle.model.specs.Lent.{RootReferences, AllSwept, Told}
use Rattle.model.proofs.Audit.{audit_facts, facts_audit}
use Rattle.model.proofs.Lent.{sized_consistent}
use Rattle.audit_pages.specs.Pass.{GoodPages}
use Rattle.audit_bits.specs.Words.{GoodBits}
use Rattle.audit_words.specs.Contents.{Filled, Contents}

module _ (h : Heap) (Z : Sized h) where
  -- a part says no
  pub refused : (Audited h → ⊥) → false ≡ audit h
  refused f = go (audit h) refl
    where
      go : (b : Bool) → audit h ≡ b → false ≡ b
      go true e = absurd (f (audit_facts h Z (is_true _ e)))
      go false e = refl

  -- the last part decides
  pub decided : (r : Bool) → (T r → Audited h) → (Audited h → T r) → r ≡ audit h
  decided r f g = same_test r (audit h) (λ x. facts_audit h (f x)) (λ x. g (audit_facts h Z x))

  -- after the page table and the bits
  pub filled : Spans h.pages h.table → Bits h.pages h.table h.bits → Filled h.pages h.arena h.table h.bits
  filled F B = record { consistent = sized_consistent Z F B; arena = Z.arena }

  pub joined : States h.roots → GoodPages h.pages (get_or h.roots phase_at 0) h.table → GoodBits h.pages (get_or h.roots phase_at 0) h.table h.bits →
      RootReferences h.pages h.table h.bits h.roots → Contents h.pages h.arena h.table h.bits → Audited h
  joined S F B R C =
      record { sized = Z; spans = F.spans; bits = B.rules; phases = B.phases; references = record { root = R; content = C }; states = S; occupied = B.occupied }

-- outside the sweep phase no span is unswept
pub told : (phase : ℕ) (t : List ℕ) → (phase ≢ sweep → AllSwept t) → Told (not (eqb phase sweep)) t
told phase t h e = h (eqb-false phase sweep (not-true (eqb phase sweep) e))

-- what the page table's part says of an audited heap
pub paged : (h : Heap) → Audited h → GoodPages h.pages (get_or h.roots phase_at 0) h.table
paged h F = record { spans = F.spans; swept = F.phases.swept }

-- .. and the bits' part
pub ruled : (h : Heap) → Audited h → GoodBits h.pages (get_or h.roots phase_at 0) h.table h.bits
ruled h F = record { rules = F.bits; phases = F.phases; occupied = F.occupied }

-- What is asked of kept elements, by what tells which they are.
use Rattle.std.specs.Prelude.{ℕ, Bool, List}
use Rattle.model.specs.Facts.{Reference, kept_at}
use Rattle.model.specs.Lent as lent
use Rattle.audit_references.specs.References.{RootRange}
use Rattle.audit_references.specs.declared.Kept.{Kept}

-- word w starts a kept element
abbrev pub contains : Kept → ℕ → Bool
contains k w = kept_at k.pages k.table.now k.bits.now w

-- the value is nil or the address of a kept element
abbrev pub IsReference : Kept → ℕ → Type 0
IsReference k v = Reference k.pages k.table.now k.bits.now v

-- the roots from `from` on and before `to` are references
abbrev pub Range : Kept → List ℕ → ℕ → ℕ → Type 0
Range k r from to = RootRange k.pages k.table.now k.bits.now r from to

-- so is every slot and every global
abbrev pub RootReferences : Kept → List ℕ → Type 0
RootReferences k r = lent.RootReferences k.pages k.table.now k.bits.now r

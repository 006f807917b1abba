-- What a call does to a cycle, of all that it does, and the tests by which cycles are told. Every event (Event) has an effect, and so has every call
-- of the abstract heap (proofs/Operations.antt). Nothing has to be read before it.
--
-- "A cycle runs from an accepted start to the next accepted sweep step that answers 0, 0, 0; a setup accepted before that breaks it off."
use Rattle.std.specs.Prelude.{Bool, true, false, not, cond, ◌&&◌, ◌||◌, ℕ}

infix 50 ◌is◌
-- none: most calls, a refused call among them. works: a mark step that takes a gray record. ends: the sweep step that ends a cycle; sweeps: any other,
-- and each sweep inside a call
pub data Effect : Type 0 where
  none setsUp starts works finishes sweeps ends : Effect
  deriving Discrete as same

abbrev pub ◌is◌ : Effect → Effect → Bool
e is f = elim (same e f) [ yes p ↦ true | no p ↦ false ]

-- every call but a setup
abbrev pub lasting : Effect → Bool
lasting e = not (e is setsUp)

-- a call that neither ends a cycle nor breaks it off
abbrev pub in_cycle : Effect → Bool
in_cycle e = lasting e && not (e is ends)

-- a call between a start and its finish, in the mark phase: setups, starts, finishes and sweep steps are not such calls
abbrev pub in_marking : Effect → Bool
in_marking e = e is none || e is works

-- a sweep step, the one that ends a cycle among them
abbrev pub is_sweep : Effect → Bool
is_sweep e = e is sweeps || e is ends

abbrev pub as_number : Bool → ℕ
as_number b = cond b 1 0

-- how often, once or not at all, a call turns off a bit that was `before` and is `after` it: only a sweep counts
abbrev pub turned_off : Effect → Bool → Bool → ℕ
turned_off e before after = as_number (is_sweep e && before && not after)

-- how many mark steps that do work a call is
abbrev pub work : Effect → ℕ
work e = as_number (e is works)

-- Ranges of roots: the slots of a closed stack, two ranges joined, and a part of the roots as a range.
use Prim.Native.Nat.{ℕ, ◌+◌, ◌-◌, ◌*◌, ◌<◌, ◌≤◌}
use mathlib.Core.Bool.{Bool, true, false}
use mathlib.Core.List.{List}
use mathlib.Core.Logic.{inl, ◌↔◌}
use mathlib.Core.Path.{◌≡◌, refl, ◌∙◌}
use native.Mathlib.Omega.{arith}
use lib.Dec.{ltb, T}
use Rattle.std.specs.Bool.{MatchBool}
use Rattle.std.specs.List.{AllWithin, HoldsAt}
use lib.ListN.{get_or, take, drop, length}
use borrow.Author.Tests.{ltb-true, ltb-false}
use Rattle.std.proofs.lemmas.List.{get_or-take, get_or-drop, length-take, length-drop}
use Rattle.model.specs.Memory.{stack_count, slot_count, first_state, closed}
use Rattle.model.specs.Facts.{Reference, States}
use Rattle.audit_references.specs.References.{RootRange}

module _ (p : ℕ) (t b r : List ℕ) where
  pub range_join : (from k to : ℕ) → RootRange p t b r from k → RootRange p t b r k to → RootRange p t b r from to
  range_join from k to A B i l m = go (ltb i k) refl
    where
      go : (c : Bool) → ltb i k ≡ c → Reference p t b (get_or r i 0)
      go true e = A i l (ltb-true i k e)
      go false e = B i (ltb-false i k e) m

  pub closed_range : States r → (s : ℕ) → s < stack_count → get_or r (first_state + s) 0 ≡ closed → RootRange p t b r (slot_count * s) (slot_count * s + slot_count)
  closed_range S s l e i h m =
      let z : slot_count * s + (i - slot_count * s) ≡ i = omega arith in
      inl (rw z at (S.closed s (i - slot_count * s) l (omega arith) e))

  -- a test of the words from `from` on and before `to`
  pub range_part : (from to : ℕ) (ws : List ℕ) (a : Bool) → T a ↔ RootRange p t b ws 0 (length ws) → ws ≡ take (to - from) (drop from r) → from ≤ to → to ≤ length r →
      T a ↔ RootRange p t b r from to
  range_part from to ws a f e l m = (λ x. whole (rw e at (f.0 x)), λ B. f.1 (rw e (part B)))
    where
      long : length (take (to - from) (drop from r)) ≡ to - from
      long = omega (arith, length-take (to - from) (drop from r), length-drop from r)

      word : (i : ℕ) → i < to - from → get_or (take (to - from) (drop from r)) i 0 ≡ get_or r (from + i) 0
      word i k = get_or-take (to - from) (drop from r) i 0 k ∙ get_or-drop from r i 0

      part : RootRange p t b r from to → RootRange p t b (take (to - from) (drop from r)) 0 (length (take (to - from) (drop from r)))
      part B i _ k = rw (word i (omega (arith, long))) (B (from + i) (omega arith) (omega (arith, long)))

      whole : RootRange p t b (take (to - from) (drop from r)) 0 (length (take (to - from) (drop from r))) → RootRange p t b r from to
      whole A i h k =
          let z : from + (i - from) ≡ i = omega arith in
          rw z at (rw (word (i - from) (omega arith)) at (A (i - from) (omega arith) (omega (arith, long))))

  -- what a test of every word tells
  pub all_references : (a : Bool) → MatchBool a (AllWithin (Reference p t b) r 0 (length r)) ((k : ℕ) × (k < length r) × HoldsAt (λ v. Reference p t b v → ⊥) r k) → T a ↔ RootRange p t b r 0 (length r)
  all_references true h = (λ _ i l m. h i 0 l m, λ _. tt)
  all_references false h = (λ x. absurd x, λ A. h.2 0 (A h.0 (omega arith) h.1))

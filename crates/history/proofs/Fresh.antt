-- Setup: the view of the fresh heap is the theory's fresh heap.
use Prim.Native.Nat.{ℕ, ◌+◌, ◌*◌}
use mathlib.Core.List.{List}
use mathlib.Core.Bool.{Bool, true, false, not, cond, ◌&&◌}
use mathlib.Core.Path.{◌≡◌, refl, ap}
use native.Mathlib.Omega.{arith}
use lib.ListN.{get_or, set}
use lib.Dec.{eqb, ltb}
use borrow.Author.Tests.{ltb-true}
use Rattle.marking.specs.Trace.{Fresh}
use Rattle.model.specs.Memory.{Heap, stack_count, slot_count, global_count, first_global, first_state, globals_state_at, phase_at, root_words, page_words, bitmap_words, open_state, closed}
use Rattle.model.specs.Bitmaps.{allocated}
use Rattle.model.specs.Records.{fresh}
use Rattle.keeps.proofs.Fresh.{zeros, no_bit, fresh_root, fresh_nil}
use Rattle.history.proofs.View.{view, phase_of}

pub fresh_view : (h : Heap) → Fresh (view (fresh h))
unfolding view fresh
fresh_view h = record {
  allocated = λ w. no_bit (page_words * h.pages) (bitmap_words * h.pages) allocated w;
  slots = λ t i. slots t i (ltb t stack_count) refl (ltb i slot_count) refl;
  globals = λ g. globals g (ltb g global_count) refl;
  opened = λ t. opened t (ltb t stack_count) refl;
  phase = ap phase_of (fresh_root phase_at);
}
  where
    r : List ℕ
    r = set (zeros root_words) globals_state_at open_state

    slots : (t i : ℕ) (a : Bool) → ltb t stack_count ≡ a → (b : Bool) → ltb i slot_count ≡ b → cond (a && b) (get_or r (slot_count * t + i) 0) 0 ≡ 0
    slots t i true e true f = fresh_nil (slot_count * t + i) (omega (arith, ltb-true t stack_count e, ltb-true i slot_count f))
    slots t i true e false f = refl
    slots t i false e b f = refl

    globals : (g : ℕ) (a : Bool) → ltb g global_count ≡ a → cond a (get_or r (first_global + g) 0) 0 ≡ 0
    globals g true e = fresh_nil (first_global + g) (omega (arith, ltb-true g global_count e))
    globals g false e = refl

    opened : (t : ℕ) (a : Bool) → ltb t stack_count ≡ a → (a && not (eqb (get_or r (first_state + t) 0) closed)) ≡ false
    opened t true e = rw (fresh_nil (first_state + t) (omega (arith, ltb-true t stack_count e)))
    opened t false e = refl

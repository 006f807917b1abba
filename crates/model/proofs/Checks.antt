-- What a chain of checks that gives 0 has passed. The ruleset `passes` turns any chain into a product of facts and back; the chains that several
-- calls share have their product stated here.
use Prim.Native.Nat.{ℕ, ◌/◌, ◌<◌, ◌≤◌}
use mathlib.Core.Bool.{Bool, true, false, not, cond}
use mathlib.Core.Logic.{◌≢◌, ◌↔◌, ◌⊎◌, inl, inr}
use mathlib.Core.Path.{◌≡◌, refl, sym, ◌∙◌}
use native.Mathlib.Omega.{arith}
use lib.Dec.{T, eqb, ltb}
use borrow.Author.Tests.{eqb-true, eqb-false, ltb-true, ltb-false}
use Rattle.model.specs.Bounded.{all_below, some_below}
use Rattle.model.specs.Memory.{Heap, good_buffers, words, state, phase, globals_state, stack_count, slot_count, global_count, word_bytes, mark, closed, gray_state}
use Rattle.model.specs.Answers.{◌given◌, ◌or_else◌, bad_buffers, damaged}
use Rattle.model.specs.Bitmaps.{is, gray}
use Rattle.model.specs.Spans.{element_words, span_of, pointer_count}
use Rattle.model.specs.Checks.{buffers_refusal, slot_refusal, slots_refusal, global_refusal, pointer_refusal, number_refusal, record_at, open_refusal}
use Rattle.model.specs.Audit.{audit}
use Rattle.model.specs.Allocate.{room_for, room_refusal, allocate_refusal}
use Rattle.model.specs.Classes.{max_size}
use Rattle.model.specs.Cycle.{first_gray, finish_refusal}
use Rattle.model.specs.Calls.{entry}
use Rattle.model.proofs.Tests.{is_true, of_true, and_iff, nor_iff, not_not_iff, implies_iff, eqb_iff, neqb_iff, ltb_iff, nltb_iff, leb_iff, nleb_iff}
use Rattle.model.proofs.Bounded.{all_iff, first_props}
use Rattle.model.proofs.Bitmaps.{bit_inside}
use Rattle.model.proofs.Rules.{cond_iff}
use Rattle.model.specs.Facts.{Audited, Sized}
use Rattle.model.proofs.Audit.{sized, sized_good, audit_facts, facts_audit}

pub given_iff : (n : ℕ) (b : Bool) → eqb n 0 ≡ false → ((n given b) ≡ 0) ↔ T (not b)
unfolding ◌given◌
given_iff n true e = (λ p. absurd (eqb-false n 0 e p), λ z. absurd z)
given_iff n false e = (λ p. tt, λ z. refl)

pub or_else_iff : (a b : ℕ) → ((a or_else b) ≡ 0) ↔ ((a ≡ 0) × (b ≡ 0))
unfolding ◌or_else◌
or_else_iff a b = (go (eqb a 0) refl, λ p. rw p.0 p.1)
  where
    go : (t : Bool) → eqb a 0 ≡ t → cond t b a ≡ 0 → (a ≡ 0) × (b ≡ 0)
    go true p q = (eqb-true a 0 p, q)
    go false p q = absurd (eqb-false a 0 p q)

-- there is no number that passes
pub none_iff : (n : ℕ) (t : ℕ → Bool) → T (not (some_below n t)) ↔ ((k : ℕ) → k < n → T (not (t k)))
unfolding some_below
none_iff n t = (λ x. (all_iff n (λ k. not (t k))).0 ((not_not_iff (all_below n (λ k. not (t k)))).0 x), λ f. (not_not_iff (all_below n (λ k. not (t k)))).1 ((all_iff n (λ k. not (t k))).1 f))

pub ruleset passes = (given_iff, or_else_iff, none_iff, and_iff, nor_iff, not_not_iff, implies_iff, cond_iff, eqb_iff, neqb_iff, ltb_iff, nltb_iff, leb_iff, nleb_iff, all_iff)

-- a stack that is open
pub record OpenStack (h : Heap) (s : ℕ) : Type 0 where
  pub below : s < stack_count
  pub is_open : state h s ≢ closed

pub open_passed : (h : Heap) (s : ℕ) → open_refusal h s ≡ 0 → OpenStack h s
open_passed h s e = let x = simp passes at e in record { below = x.0; is_open = x.1 }

pub slot_passed : (h : Heap) (s i : ℕ) → slot_refusal h s i ≡ 0 → OpenStack h s × (i < slot_count)
unfolding slot_refusal
slot_passed h s i e = let x = simp passes at e in (record { below = x.0.0; is_open = x.0.1 }, x.1)

pub slots_passed : (h : Heap) (s i j : ℕ) → slots_refusal h s i j ≡ 0 → OpenStack h s × (i < slot_count) × (j < slot_count)
unfolding slots_refusal
slots_passed h s i j e = let x = simp passes at e in (record { below = x.0.0; is_open = x.0.1 }, x.1.0, x.1.1)

pub global_passed : (h : Heap) (s i g : ℕ) → global_refusal h s i g ≡ 0 → OpenStack h s × (i < slot_count) × (g < global_count)
unfolding global_refusal
global_passed h s i g e = let x = simp passes at e in (record { below = x.0.0; is_open = x.0.1 }, x.1.0, x.1.1)

-- a pointer word or a number word of the record in slot j
pub record PointerField (h : Heap) (s i j f : ℕ) : Type 0 where
  pub stack : OpenStack h s
  pub other : i < slot_count
  pub slot : j < slot_count
  pub named : Rattle.model.specs.Memory.slot h s j ≢ 0
  pub field : f < pointer_count h (record_at h s j)

pub pointer_passed : (h : Heap) (s i j f : ℕ) → pointer_refusal h s i j f ≡ 0 → PointerField h s i j f
unfolding pointer_refusal slots_refusal
pointer_passed h s i j f e = let x = simp passes at e in
    record { stack = record { below = x.0.0.0; is_open = x.0.0.1 }; other = x.0.1.0; slot = x.0.1.1; named = x.1.0; field = x.1.1 }

pub record NumberField (h : Heap) (s j f : ℕ) : Type 0 where
  pub stack : OpenStack h s
  pub slot : j < slot_count
  pub named : Rattle.model.specs.Memory.slot h s j ≢ 0
  pub low : pointer_count h (record_at h s j) ≤ f
  pub high : f < element_words h.table (span_of h.table (record_at h s j))

pub number_passed : (h : Heap) (s j f : ℕ) → number_refusal h s j f ≡ 0 → NumberField h s j f
unfolding number_refusal slot_refusal
number_passed h s j f e = let x = simp passes at e in
    record { stack = record { below = x.0.0.0; is_open = x.0.0.1 }; slot = x.0.1; named = x.1.0; low = x.1.1.0; high = x.1.1.1 }

-- an allocation: its slot and its size, before any sweep; and room, after the sweeps
pub record Allocates (h : Heap) (s i size p : ℕ) : Type 0 where
  pub stack : OpenStack h s
  pub slot : i < slot_count
  pub some : size ≢ 0
  pub limit : size ≤ max_size
  pub pointers : p ≤ size / word_bytes

pub room_passed : (h : Heap) (kind n : ℕ) → room_refusal h kind n ≡ 0 → T (room_for h kind n)
unfolding room_refusal
room_passed h kind n e = simp (given_iff, not_not_iff) at e

pub allocate_passed : (h : Heap) (s i size p : ℕ) → allocate_refusal h s i size p ≡ 0 → Allocates h s i size p
unfolding allocate_refusal slot_refusal
allocate_passed h s i size p e = let x = simp passes at e in
    record { stack = record { below = x.0.0.0; is_open = x.0.0.1 }; slot = x.0.1; some = x.1.0.0; limit = x.1.0.1; pointers = x.1.1 }

-- nothing is gray
pub record NothingGray (h : Heap) : Type 0 where
  pub phase : Rattle.model.specs.Memory.phase h ≡ mark
  pub stacks : (s : ℕ) → s < stack_count → state h s ≢ gray_state
  pub globals : globals_state h ≢ gray_state
  pub records : (w : ℕ) → is gray h w ≡ false

none_gray : (h : Heap) → words h ≤ first_gray h → (w : ℕ) → is gray h w ≡ false
unfolding first_gray
none_gray h l w = go (ltb w (words h)) refl (is gray h w) refl
  where
    go : (a : Bool) → ltb w (words h) ≡ a → (b : Bool) → is gray h w ≡ b → b ≡ false
    go true e b p = sym p ∙ (first_props (words h) (is gray h)).before w (omega (arith, ltb-true w (words h) e))
    go false e true p = absurd (omega (arith, ltb-false w (words h) e, bit_inside (words h) gray h.bits w (is_true _ p)))
    go false e false p = refl

pub finish_passed : (h : Heap) → finish_refusal h ≡ 0 → NothingGray h
unfolding finish_refusal
finish_passed h e = let x = simp passes at e in
    record { phase = x.0; stacks = x.1.0.0; globals = x.1.0.1; records = none_gray h x.1.1 }

-- the entry: buffers and audit
pub lengths_passed : (h : Heap) → buffers_refusal h ≡ 0 → Sized h
lengths_passed h e = sized h (simp (given_iff, not_not_iff) at e)

pub entry_passed : (h : Heap) → entry h ≡ 0 → Audited h
unfolding entry
entry_passed h e = let x = simp (given_iff, or_else_iff, not_not_iff) at e in audit_facts h (sized h x.0) x.1

pub entry_passes : (h : Heap) → Audited h → entry h ≡ 0
unfolding entry
entry_passes h F = simp (given_iff, or_else_iff, not_not_iff) (sized_good h F.sized, facts_audit h F)

-- of a heap of good lengths it gives 0 or 12, damaged
pub entry_damaged : (h : Heap) → Sized h → (entry h ≡ 0) ⊎ (entry h ≡ damaged)
unfolding entry
entry_damaged h Z = rw (of_true (good_buffers h) (sized_good h Z)) (go (audit h))
  where
    go : (b : Bool) → ((bad_buffers given false or_else damaged given not b) ≡ 0) ⊎ ((bad_buffers given false or_else damaged given not b) ≡ damaged)
    go true = inl (unfold ◌given◌ ◌or_else◌ in refl)
    go false = inr (unfold ◌given◌ ◌or_else◌ in refl)

-- No call's own refusal is 12: that number is the entry's alone.
use Prim.Native.Nat.{ℕ}
use mathlib.Core.Bool.{Bool, true, false, cond}
use mathlib.Core.Logic.{◌≢◌}
use native.Mathlib.Omega.{arith}
use lib.Dec.{eqb}
use Rattle.model.specs.Memory.{Heap, mark}
use Rattle.model.specs.Answers.{◌given◌, ◌or_else◌, damaged, wrong_phase, bad_stack, bad_slot, bad_size, nil_slot, bad_field, no_room, unfinished}
use Rattle.model.specs.Checks.{phase_refusal, open_refusal, closed_refusal, slot_number_refusal, nil_refusal, slot_refusal, slots_refusal, global_refusal, pointer_refusal, number_refusal}
use Rattle.model.specs.Allocate.{room_refusal, allocate_refusal}
use Rattle.model.specs.Cycle.{finish_refusal}

-- a row of the table, and rows one after the other
given_not : (n : ℕ) (b : Bool) → n ≢ damaged → (n given b) ≢ damaged
unfolding ◌given◌
given_not n true d = d
given_not n false d = omega arith

or_else_not : {a b : ℕ} → a ≢ damaged → b ≢ damaged → (a or_else b) ≢ damaged
unfolding ◌or_else◌
or_else_not {a} {b} d e = go (eqb a 0)
  where
    go : (t : Bool) → cond t b a ≢ damaged
    go true = e
    go false = d

pub phase_not : (h : Heap) (ph : ℕ) → phase_refusal h ph ≢ damaged
phase_not h ph = given_not wrong_phase _ (omega arith)

pub open_not : (h : Heap) (s : ℕ) → open_refusal h s ≢ damaged
open_not h s = given_not bad_stack _ (omega arith)

pub closed_not : (h : Heap) (s : ℕ) → closed_refusal h s ≢ damaged
closed_not h s = given_not bad_stack _ (omega arith)

number_not : (i : ℕ) → slot_number_refusal i ≢ damaged
number_not i = given_not bad_slot _ (omega arith)

nil_not : (h : Heap) (s j : ℕ) → nil_refusal h s j ≢ damaged
nil_not h s j = given_not nil_slot _ (omega arith)

pub slot_not : (h : Heap) (s i : ℕ) → slot_refusal h s i ≢ damaged
unfolding slot_refusal
slot_not h s i = or_else_not (open_not h s) (number_not i)

pub slots_not : (h : Heap) (s i j : ℕ) → slots_refusal h s i j ≢ damaged
unfolding slots_refusal
slots_not h s i j = or_else_not (open_not h s) (or_else_not (number_not i) (number_not j))

pub global_not : (h : Heap) (s i g : ℕ) → global_refusal h s i g ≢ damaged
unfolding global_refusal
global_not h s i g = or_else_not (open_not h s) (or_else_not (number_not i) (given_not bad_slot _ (omega arith)))

pub pointer_not : (h : Heap) (s i j f : ℕ) → pointer_refusal h s i j f ≢ damaged
unfolding pointer_refusal
pointer_not h s i j f = or_else_not (slots_not h s i j) (or_else_not (nil_not h s j) (given_not bad_field _ (omega arith)))

pub field_not : (h : Heap) (s j f : ℕ) → number_refusal h s j f ≢ damaged
unfolding number_refusal
field_not h s j f = or_else_not (slot_not h s j) (or_else_not (nil_not h s j) (given_not bad_field _ (omega arith)))

pub room_not : (h : Heap) (kind n : ℕ) → room_refusal h kind n ≢ damaged
unfolding room_refusal
room_not h kind n = given_not no_room _ (omega arith)

pub allocate_not : (h : Heap) (s i size p : ℕ) → allocate_refusal h s i size p ≢ damaged
unfolding allocate_refusal
allocate_not h s i size p = or_else_not (slot_not h s i) (given_not bad_size _ (omega arith))

pub scan_not : (h : Heap) (s : ℕ) → (phase_refusal h mark or_else open_refusal h s) ≢ damaged
scan_not h s = or_else_not (phase_not h mark) (open_not h s)

pub finish_not : (h : Heap) → finish_refusal h ≢ damaged
unfolding finish_refusal
finish_not h = or_else_not (phase_not h mark) (given_not unfinished _ (omega arith))

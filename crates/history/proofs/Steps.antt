-- What a call comes to (`Happens`): a step of the theory, and what it answered. Every outcome is split by its refusal; what the view shows of slots,
-- stacks and words is here too. That a call keeps the audit is the law of the crate keeps.
use Prim.Native.Nat.{ℕ, ◌+◌, ◌*◌, ◌/◌, ◌<◌}
use mathlib.Core.Bool.{Bool, true, false, not, cond, and-false}
use mathlib.Core.Logic.{◌≢◌}
use mathlib.Core.Path.{◌≡◌, refl, ap, sym}
use native.Mathlib.Omega.{arith}
use lib.Dec.{T, eqb}
use borrow.Author.Tests.{lt-ltb, eq-eqb, ne_eqb, eqb-true, eqb-false}
use Rattle.marking.specs.WordHeap.{Phase, LegalColours, record_in}
use Rattle.marking.specs.Trace.{Step}
use Rattle.marking.specs.Trace
use Rattle.model.specs.Memory.{Heap, choose, set_root, slot, global, state, phase, word, slot_at, stack_count, slot_count, global_count, page_words, closed, off, mark, sweep}
use Rattle.model.specs.Spans.{span_of, element_words, pointer_count}
use Rattle.model.specs.Answers.{outcome}
use Rattle.model.specs.declared.Call.{Call}
use Rattle.model.specs.declared.Answer.{Answer}
use Rattle.model.specs.declared.Answer.TheVariants.{Refused, Value}
use Rattle.model.proofs.Tests.{of_true}
use Rattle.model.specs.Facts.{Audited}
use Rattle.model.proofs.Facts.{not_unswept}
use Rattle.history.specs.Ledger.{event}
use Rattle.history.specs.Demand.{Subject, subject}
use Rattle.history.proofs.View.{view, phase_of, late_at, words_at, run_from, marking_is}

-- what a call has answered, where its answer is about a slot or a word: what the heap that it leaves has there
abbrev pub Said : Subject → Answer → Heap → Type 0
Said Subject.nothing a h = Unit {0}
Said (Subject.in_slot s i) a h = a ≡ Value ((view h).slots s i)
Said (Subject.in_word s j f) a h = a ≡ Value ((view h).arena (record_in (view h) s j + f))

-- what a call on h comes to
pub record Happens (h : Heap) (c : Call) (a : Answer) (h' : Heap) : Type 0 where
  pub step : Step (view h) (event c a) (view h')
  pub said : Said (subject (event c a)) a h'

-- a refused call leaves all as it is
pub is_refused : (h : Heap) (c : Call) (n : ℕ) → n ≢ 0 → Happens h c (Refused n) h
is_refused h c n d = record { step = rw (ne_eqb n 0 d) Trace.Step.nothing; said = rw (ne_eqb n 0 d) tt }

-- an outcome by its refusal
pub by_refusal : (h : Heap) (c : Call) (n : ℕ) (a : Answer) (done : Heap) → done.pages ≡ h.pages → (n ≡ 0 → Happens h c a done) →
    let o = outcome n h a done in Happens h c o.answer o.heap
by_refusal h c n a done e f = go (eqb n 0) refl
  where
    go : (b : Bool) → eqb n 0 ≡ b → Happens h c (cond b a (Refused n)) (choose b done h)
    go true p = f (eqb-true n 0 p)
    go false p = rw e (is_refused h c n (eqb-false n 0 p))

-- a slot that was set holds the value
pub slot_now : {h : Heap} → Audited h → (s i v : ℕ) → s < stack_count → i < slot_count → Value v ≡ Value ((view (set_root (slot_at s i) v h)).slots s i)
unfolding view
slot_now {h} F s i v a b = ap Value (sym (rw (
  lt-ltb s stack_count a,
  lt-ltb i slot_count b,
  Rattle.keeps.proofs.Roots.root_at F (slot_count * s + i) v (omega arith) (slot_count * s + i),
  eq-eqb (slot_count * s + i) (slot_count * s + i) refl,
)))

-- what the theory takes from the audit
off_is : (n : ℕ) → phase_of n ≡ Phase.off → n ≡ off
off_is n e = go (eqb n off) refl (eqb n mark) e
  where
    code : Phase → ℕ
    code Phase.off = 0
    code Phase.mark = 1
    code Phase.sweep = 2

    go : (a : Bool) → eqb n off ≡ a → (b : Bool) → cond a Phase.off (cond b Phase.mark Phase.sweep) ≡ Phase.off → n ≡ off
    go true p b q = eqb-true n off p
    go false p true q = absurd (omega (arith, ap code q))
    go false p false q = absurd (omega (arith, ap code q))

pub audit_view : {h : Heap} → Audited h → LegalColours (view h)
unfolding view late_at
audit_view {h} F = record {
  marked_allocated = F.bits.marks;
  gray_marked = λ w g. (F.bits.grays w g).0;
  off_unmarked = λ e. F.phases.none (off_is (phase h) e);
  mark_swept = λ m w. rw (not_unswept F.spans F.phases (two (rw (marking_is (phase h)) at m)) (span_of h.table w))
      (and-false (not (Rattle.model.specs.Spans.is_free h.table (w / page_words))));
}
  where
    two : T (eqb (phase h) mark) → phase h ≢ sweep
    two m q = omega (arith, eqb-true (phase h) mark (of_true _ m))

-- what the view says of a slot, a stack, a global, the phase
pub see_slot : (h : Heap) (s i : ℕ) → s < stack_count → i < slot_count → (view h).slots s i ≡ slot h s i
unfolding view
see_slot h s i a b = rw (lt-ltb s stack_count a, lt-ltb i slot_count b)

pub see_open : (h : Heap) (s : ℕ) → s < stack_count → state h s ≢ closed → T ((view h).opened s)
unfolding view
see_open h s a d = rw (lt-ltb s stack_count a, ne_eqb (state h s) closed d) tt

pub see_global : (h : Heap) (g : ℕ) → g < global_count → (view h).globals g ≡ global h g
unfolding view
see_global h g a = rw (lt-ltb g global_count a)

pub see_phase : (h : Heap) {n : ℕ} → phase h ≡ n → (view h).phase ≡ phase_of n
unfolding view
see_phase h e = rw e

pub see_pointers : (h : Heap) (w : ℕ) → (view h).elements.pointers w ≡ pointer_count h w
unfolding view words_at run_from
see_pointers h w = refl

pub see_words : (h : Heap) (w : ℕ) → (view h).elements.words w ≡ element_words h.table (span_of h.table w)
unfolding view words_at
see_words h w = refl

pub see_word : (h : Heap) (w : ℕ) → (view h).arena w ≡ word h w
unfolding view
see_word h w = refl

-- Laws of a line's work: from what a call and a writer promise to what the line's work does.
use Prim.Native.Nat.{ℕ}
use mathlib.Core.Bool.{Bool, true, false}
use mathlib.Core.List.{List}
use mathlib.Core.Path.{◌≡◌, refl}
use native.Mathlib.Omega.{arith}
use Rattle.std.proofs.Common.{Option, Some, None}
use Rattle.model.specs.Memory.{Heap}
use Rattle.model.specs.Answers.{Outcome, Meets, accepted, bad_buffers}
use Rattle.model.specs.Calls as model
use Rattle.model.specs.declared.Call.{Call as AnyCall}
use Rattle.model.specs.declared.Call.TheVariants as call
use Rattle.model.specs.declared.Answer.{Answer}
use Rattle.model.specs.declared.Answer.TheVariants.{Refused}
use Rattle.trace_read.specs.declared.Line.{Line}
use Rattle.trace_read.specs.declared.Line.TheVariants.{Setup, Call}
use Rattle.trace_write.specs.Text.{answer_text, bad_text, Wrote}
use Rattle.trace_write.proofs.Bytes.{answer_length, bad_length}
use Rattle.trace_line.specs.Play.{answered, played_bad, in_reach, setup_refused, played_setup, with_pages, first, later, pages_of, Plays}

-- a call was made and its answer written
pub plays : {o : Outcome} {answer : Answer} {a t b s x y : List ℕ} {at e : ℕ} (more : Bool) → Meets o answer a t b s → Wrote (answer_text answer) at x y e → Plays (answered o more) at x y (record { at = e; more = more }) a t b s
plays {o} {answer} {a} {t} {b} {s} {x} {y} {at} {e} more m w = record {
  written = rw (← m.answer) w;
  room = omega (arith, w.end, answer_length answer);
  more = refl;
  arena = m.arena;
  table = m.table;
  bits = m.bits;
  roots = m.roots;
}

-- nothing changed, and `bad` written
pub plays_bad : {h : Heap} {x y : List ℕ} {at e : ℕ} (number : ℕ) → Wrote (bad_text number) at x y e → Plays (played_bad number h) at x y (record { at = e; more = false }) h.arena h.table h.bits h.roots
plays_bad {h} {x} {y} {at} {e} number w = record {
  written = w;
  room = omega (arith, w.end, bad_length number);
  more = refl;
  arena = refl;
  table = refl;
  bits = refl;
  roots = refl;
}

-- `H P` out of reach
pub plays_refused : {x y : List ℕ} {at e : ℕ} (h : Heap) (p : ℕ) → in_reach p ≡ false → Wrote (answer_text (Refused bad_buffers)) at x y e →
    Plays (played_setup p h) at x y (record { at = e; more = false }) h.arena h.table h.bits h.roots
unfolding played_setup
plays_refused h p r w = rw r (plays {o = setup_refused h} false (record { answer = refl; listed = refl; arena = refl; table = refl; bits = refl; roots = refl }) w)

-- .. and in reach
pub plays_setup : {answer : Answer} {a t b s x y : List ℕ} {at e : ℕ} {more : Bool} (h : Heap) (p : ℕ) → in_reach p ≡ true →
    Meets (model.run (with_pages p h) call.Setup) answer a t b s → more ≡ accepted answer → Wrote (answer_text answer) at x y e →
    Plays (played_setup p h) at x y (record { at = e; more = more }) a t b s
unfolding played_setup
plays_setup {answer} {a} {t} {b} {s} {x} {y} {at} {e} {more} h p r m k w =
    let q = plays more m w in
    rw r (record { written = q.written; room = q.room; more = rw (← m.answer) k; arena = q.arena; table = q.table; bits = q.bits; roots = q.roots })

-- a first line that is not H, and a later line that is no call
pub not_setup : (l : Option Line) → ((p : ℕ) → l ≡ Some (Setup p) → ⊥) → (h : Heap) → first l h ≡ played_bad 1 h
not_setup None k h = refl
not_setup (Some (Setup p)) k h = absurd (k p refl)
not_setup (Some (Call c)) k h = refl

pub no_pages : (l : Option Line) → ((p : ℕ) → l ≡ Some (Setup p) → ⊥) → pages_of l ≡ None
no_pages None k = refl
no_pages (Some (Setup p)) k = absurd (k p refl)
no_pages (Some (Call c)) k = refl

pub not_call : (l : Option Line) → ((c : AnyCall) → l ≡ Some (Call c) → ⊥) → (number : ℕ) (h : Heap) → later l number h ≡ played_bad number h
not_call None k number h = refl
not_call (Some (Setup p)) k number h = refl
not_call (Some (Call c)) k number h = absurd (k c refl)

-- Laws of outcomes: a row of refusals; what meets an outcome, for a call that is refused and one that is accepted, and how the audited call's outcome becomes the
-- public call's, once the entry check has given 0.
use Prim.Native.Nat.{ℕ}
use mathlib.Core.Bool.{Bool, true, false, cond}
use mathlib.Core.List.{List}
use mathlib.Core.Logic.{◌≢◌}
use mathlib.Core.Path.{◌≡◌, refl, sym, subst}
use lib.Dec.{eqb}
use borrow.Author.Tests.{ne_eqb}
use Rattle.model.specs.Memory.{Heap, lent}
use Rattle.model.specs.Answers.{◌or_else◌, Outcome, outcome, Meets}
use Rattle.model.specs.Calls.{does, entry_refusal, run}
use Rattle.model.specs.declared.Answer.{Answer}
use Rattle.model.specs.declared.Answer.TheVariants.{Refused}
use Rattle.model.specs.declared.Call.{Call}

-- refusals in a row: which two are taken together makes no difference
pub or_else_assoc : (a b c : ℕ) → ((a or_else b) or_else c) ≡ (a or_else (b or_else c))
unfolding ◌or_else◌
or_else_assoc a b c = go (eqb a 0) refl
  where
    go : (t : Bool) → eqb a 0 ≡ t → cond (eqb (cond t b a) 0) c (cond t b a) ≡ cond t (cond (eqb b 0) c b) a
    go true e = refl
    go false e = rw e

-- what equals an outcome's parts meets it
pub meets : {o : Outcome} {r : Answer} {p : ℕ} {a t b s : List ℕ} → o ≡ record { answer = r; heap = lent p a t b s } → Meets o r a t b s
meets {o} {r} {p} {a} {t} {b} {s} e =
    subst (λ (x : Outcome). Meets x r a t b s) (sym e) (record { answer = refl; listed = refl; arena = refl; table = refl; bits = refl; roots = refl })

-- a refusal n, as the code found it, is the answer, and no buffer changes
pub refused : (m : ℕ) (h : Heap) (x : Answer) (d : Heap) {n : ℕ} → n ≡ m → n ≢ 0 → Meets (outcome m h x d) (Refused n) h.arena h.table h.bits h.roots
refused m h x d {n} e f = rw (← e, ne_eqb n 0 f) (record { answer = refl; listed = refl; arena = refl; table = refl; bits = refl; roots = refl })

-- what is not refused is done
pub not_refused : (m : ℕ) (h : Heap) (x : Answer) (d : Heap) → m ≡ 0 → Meets (outcome m h x d) x d.arena d.table d.bits d.roots
not_refused m h x d e = rw e (record { answer = refl; listed = refl; arena = refl; table = refl; bits = refl; roots = refl })

-- after an entry that gives 0, what meets the audited call meets the public call
pub entered : (h : Heap) (c : Call) {r : Answer} {a t b s : List ℕ} → entry_refusal h c ≡ 0 → Meets (does h c) r a t b s → Meets (run h c) r a t b s
entered h c e m = rw e m

-- after any other, its number is the answer
pub not_entered : (h : Heap) (c : Call) {n : ℕ} → n ≡ entry_refusal h c → n ≢ 0 → Meets (run h c) (Refused n) h.arena h.table h.bits h.roots
not_entered h c e f = refused (entry_refusal h c) h (does h c).answer (does h c).heap e f

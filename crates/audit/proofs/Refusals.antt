-- The entry check: what its two refusals and its acceptance are.
use Prim.Native.Nat.{ℕ}
use mathlib.Core.Bool.{Bool, true, false}
use mathlib.Core.Logic.{◌≢◌}
use mathlib.Core.Path.{◌≡◌, refl}
use borrow.Author.Tests.{ne_eqb}
use Rattle.model.specs.Memory.{Heap, good_buffers}
use Rattle.model.specs.Answers.{bad_buffers, damaged, ◌given◌, ◌or_else◌}
use Rattle.model.specs.Checks.{buffers_refusal}
use Rattle.model.specs.Audit.{audit}
use Rattle.model.specs.Calls.{entry}
use Rattle.model.proofs.Tests.{is_true, of_true}
use Rattle.model.specs.Facts.{Sized}
use Rattle.model.proofs.Audit.{sized, sized_good}

module _ (h : Heap) where
  not_good : (Sized h → ⊥) → good_buffers h ≡ false
  not_good f = go (good_buffers h) refl
    where
      go : (b : Bool) → good_buffers h ≡ b → good_buffers h ≡ false
      go true e = absurd (f (sized h (is_true _ e)))
      go false e = e

  pub bad_lengths : (Sized h → ⊥) → bad_buffers ≡ buffers_refusal h
  unfolding ◌given◌
  bad_lengths f = rw (not_good f)

  pub good_lengths : Sized h → 0 ≡ buffers_refusal h
  unfolding ◌given◌
  good_lengths Z = rw (of_true (good_buffers h) (sized_good h Z))

  pub refused_lengths : {n : ℕ} → n ≡ buffers_refusal h → n ≢ 0 → n ≡ entry h
  unfolding entry ◌or_else◌
  refused_lengths {n} e f = rw (← e, ne_eqb n 0 f) refl

  pub damaged_buffers : buffers_refusal h ≡ 0 → audit h ≡ false → damaged ≡ entry h
  unfolding entry ◌given◌ ◌or_else◌
  damaged_buffers z e = rw (z, e) refl

  pub good_entry : buffers_refusal h ≡ 0 → audit h ≡ true → 0 ≡ entry h
  unfolding entry ◌given◌ ◌or_else◌
  good_entry z e = rw (z, e) refl

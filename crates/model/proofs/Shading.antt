-- Laws of shading: what each part of the bitmaps is after one value was shaded, and after many. Every value must be nil or the address of a word
-- of the arena (`There`).
use Prim.Native.Nat.{ℕ, zero, suc, ◌*◌, ◌<◌}
use mathlib.Core.Bool.{Bool, true, false, not, cond, ◌&&◌, ◌||◌, or-true, or-false, and-false, and-true}
use mathlib.Core.List.{List}
use mathlib.Core.Path.{◌≡◌, refl, sym, ◌∙◌}
use native.Mathlib.Omega.{arith}
use lib.ListN.{length}
use lib.Dec.{eqb}
use borrow.Author.Tests.{eqb-true, eqb-false}
use Rattle.model.specs.Bounded.{fold_below}
use Rattle.model.specs.Memory.{page_words, nil}
use Rattle.model.specs.Bitmaps.{Part, marked, gray, put_bit}
use Rattle.model.specs.Spans.{record_of}
use Rattle.model.specs.Shading.{shade, shade_all}
use Rattle.model.proofs.Bitmaps.{Four, same_part, part_at, part_length}
use Rattle.model.specs.Facts.{bit, scan_at}
use Rattle.model.proofs.Named.{There}

cond_or : (b x : Bool) → cond b true x ≡ (x || b)
cond_or true x = sym (or-true x)
cond_or false x = sym (or-false x)

or_known : (f : ℕ → Bool) (u w : ℕ) → f u ≡ true → (f w || eqb w u) ≡ f w
or_known f u w e = go (eqb w u) refl
  where
    go : (b : Bool) → eqb w u ≡ b → (f w || b) ≡ f w
    go true p = rw (eqb-true w u p, e)
    go false p = or-false (f w)

part_four : (n : ℕ) (q : Part) (w : ℕ) (on : Bool) (b : List ℕ) → Four n b → Four n (put_bit n q w on b)
part_four n q w on b f = rw (part_length n q w on b) f

-- one value, by the three tests: nil, marked, scan
module _ (P : ℕ) (t : List ℕ) (v : ℕ) (b : List ℕ) (there : There P t v) (f : Four (page_words * P) b) where
  pub shade_length : length (shade P t v b) ≡ length b
  unfolding shade
  shade_length = go (eqb v nil) refl (bit P marked b (record_of t v)) refl (scan_at t (record_of t v)) refl
    where
      go : (z : Bool) → eqb v nil ≡ z → (m : Bool) → bit P marked b (record_of t v) ≡ m → (s : Bool) → scan_at t (record_of t v) ≡ s → length (shade P t v b) ≡ length b
      go true e m p s q = simp e
      go false e true p s q = simp (e, p)
      go false e false p true q = simp (e, p, q, part_length)
      go false e false p false q = simp (e, p, q, part_length)

  pub shade_marked : (w : ℕ) → bit P marked (shade P t v b) w ≡ cond (eqb v nil) (bit P marked b w) (bit P marked b w || eqb w (record_of t v))
  unfolding shade
  shade_marked w = go (eqb v nil) refl (bit P marked b (record_of t v)) refl (scan_at t (record_of t v)) refl
    where
      go : (z : Bool) → eqb v nil ≡ z → (m : Bool) → bit P marked b (record_of t v) ≡ m → (s : Bool) → scan_at t (record_of t v) ≡ s →
          bit P marked (shade P t v b) w ≡ cond z (bit P marked b w) (bit P marked b w || eqb w (record_of t v))
      go true e m p s q = simp e
      go false e true p s q = simp (e, p) (sym (or_known (bit P marked b) (record_of t v) w p))
      go false e false p true q = let h = there (eqb-false v nil e) in simp (e, p, q, part_at, part_four) (cond_or (eqb w (record_of t v)) (bit P marked b w))
      go false e false p false q = let h = there (eqb-false v nil e) in simp (e, p, q, part_at) (cond_or (eqb w (record_of t v)) (bit P marked b w))

  pub shade_gray : (w : ℕ) → bit P gray (shade P t v b) w ≡ cond (eqb v nil) (bit P gray b w) (bit P gray b w || (eqb w (record_of t v) && (not (bit P marked b w) && scan_at t w)))
  unfolding shade
  shade_gray w = go (eqb v nil) refl (eqb w (record_of t v)) refl
    where
      by : eqb v nil ≡ false → (m : Bool) → bit P marked b (record_of t v) ≡ m → (s : Bool) → scan_at t (record_of t v) ≡ s →
          bit P gray (shade P t v b) w ≡ (bit P gray b w || (eqb w (record_of t v) && (not m && s)))
      by e true p s q = simp (e, p, and-false, or-false)
      by e false p true q = let h = there (eqb-false v nil e) in simp (e, p, q, part_at, part_four, and-true) (cond_or (eqb w (record_of t v)) (bit P gray b w))
      by e false p false q = let h = there (eqb-false v nil e) in simp (e, p, q, part_at, and-false, or-false)

      go : (z : Bool) → eqb v nil ≡ z → (c : Bool) → eqb w (record_of t v) ≡ c →
          bit P gray (shade P t v b) w ≡ cond z (bit P gray b w) (bit P gray b w || (c && (not (bit P marked b w) && scan_at t w)))
      go true e c p = simp e
      go false e true p = by e (bit P marked b (record_of t v)) refl (scan_at t (record_of t v)) refl ∙ rw (p, eqb-true w (record_of t v) p)
      go false e false p = by e (bit P marked b (record_of t v)) refl (scan_at t (record_of t v)) refl ∙ rw p

  -- the other two parts
  pub shade_other : (q : Part) → same_part q marked ≡ false → same_part q gray ≡ false → (w : ℕ) → bit P q (shade P t v b) w ≡ bit P q b w
  unfolding shade
  shade_other q x y w = go (eqb v nil) refl (bit P marked b (record_of t v)) refl (scan_at t (record_of t v)) refl
    where
      go : (z : Bool) → eqb v nil ≡ z → (m : Bool) → bit P marked b (record_of t v) ≡ m → (s : Bool) → scan_at t (record_of t v) ≡ s → bit P q (shade P t v b) w ≡ bit P q b w
      go true e m p s r = simp e
      go false e true p s r = simp (e, p)
      go false e false p true r = let h = there (eqb-false v nil e) in simp (e, p, r, part_at, part_four, x, y)
      go false e false p false r = let h = there (eqb-false v nil e) in simp (e, p, r, part_at, x)

-- many values
module _ (P : ℕ) (t : List ℕ) (value : ℕ → ℕ) (b : List ℕ) (f : Four (page_words * P) b) where
  pub all_length : (n : ℕ) → ((k : ℕ) → k < n → There P t (value k)) → length (shade_all P t n value b) ≡ length b
  unfolding shade_all fold_below
  all_length zero h = refl
  all_length (suc n) h =
      let e = all_length n (λ k l. h k (omega arith)) in
      shade_length P t (value n) (fold_below n (λ k. shade P t (value k)) b) (h n (omega arith)) (rw e f) ∙ e

  pub all_four : (n : ℕ) → ((k : ℕ) → k < n → There P t (value k)) → Four (page_words * P) (shade_all P t n value b)
  all_four n h = rw (all_length n h) f

  pub all_other : (n : ℕ) → ((k : ℕ) → k < n → There P t (value k)) → (q : Part) → same_part q marked ≡ false → same_part q gray ≡ false → (w : ℕ) →
      bit P q (shade_all P t n value b) w ≡ bit P q b w
  unfolding shade_all fold_below
  all_other zero h q x y w = refl
  all_other (suc n) h q x y w =
      let e : length (fold_below n (λ k. shade P t (value k)) b) ≡ length b = all_length n (λ k l. h k (omega arith)) in
      shade_other P t (value n) (fold_below n (λ k. shade P t (value k)) b) (h n (omega arith)) (rw e f) q x y w ∙ all_other n (λ k l. h k (omega arith)) q x y w

-- one more value at the end
pub all_suc : (P : ℕ) (t : List ℕ) (n : ℕ) (value : ℕ → ℕ) (b : List ℕ) → shade_all P t (suc n) value b ≡ shade P t (value n) (shade_all P t n value b)
unfolding shade_all fold_below
all_suc P t n value b = refl

pub all_zero_lem : (P : ℕ) (t : List ℕ) (value : ℕ → ℕ) (b : List ℕ) → shade_all P t 0 value b ≡ b
unfolding shade_all fold_below
all_zero_lem P t value b = refl

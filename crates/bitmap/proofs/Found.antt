-- What a search answers by an `Option`, from what is known of the first number that passes, and what that tells its callers.
use Rattle.std.specs.Prelude.{ℕ, ◌+◌, ◌<◌, Bool, true, false, ◌≡◌, ltb, Some, None, refl, if◌then◌else◌}
use native.Mathlib.Omega.{arith}
use borrow.Author.Tests.{lt-ltb, le-ltb, ltb-true, ltb-false}
use Rattle.std.specs.Option.{unwrap_or}
use Rattle.model.specs.Bounded.{first_below}
use Rattle.model.proofs.Bounded.{First, first_is, first_props}
use Rattle.bitmap.specs.Search.{found}

module _ (from n : ℕ) (t : ℕ → Bool) where
  pub found_first : (r : ℕ) → First n t r → r < n → Some (from + r) ≡ found from n t
  found_first r f l = rw (first_is n t r f, lt-ltb r n l)

  pub found_nothing : First n t n → None ≡ found from n t
  found_nothing f = rw (first_is n t n f, le-ltb n n (omega arith))

  pub found_some : {i : ℕ} → Some i ≡ found from n t → (i ≡ from + first_below n t) × (first_below n t < n)
  found_some {i} e = go (ltb (first_below n t) n) refl e
    where
      go : (b : Bool) → ltb (first_below n t) n ≡ b → Some i ≡ (if b then Some (from + first_below n t) else None) → (i ≡ from + first_below n t) × (first_below n t < n)
      go true p q = (cc, ltb-true (first_below n t) n p)
      go false p q = absurd (cc)

  pub found_none : None ≡ found from n t → first_below n t ≡ n
  found_none e = go (ltb (first_below n t) n) refl e
    where
      go : (b : Bool) → ltb (first_below n t) n ≡ b → None ≡ (if b then Some (from + first_below n t) else None) → first_below n t ≡ n
      go true p q = absurd (cc)
      go false p q = omega (arith, ltb-false (first_below n t) n p, (first_props n t).within)

  -- .. or else the end
  pub found_or : (to : ℕ) → to ≡ from + n → unwrap_or (found from n t) to ≡ from + first_below n t
  found_or to e = go (ltb (first_below n t) n) refl
    where
      go : (b : Bool) → ltb (first_below n t) n ≡ b → unwrap_or (if b then Some (from + first_below n t) else None) to ≡ from + first_below n t
      go true p = refl
      go false p = omega (arith, ltb-false (first_below n t) n p, (first_props n t).within)

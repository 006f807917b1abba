-- What the search for the next freed element tells.
use Rattle.std.specs.Prelude.{ℕ, ◌+◌, ◌-◌, ◌<◌, List, ◌≡◌, Some, None}
use Rattle.model.specs.Bounded.{first_below}
use Rattle.bitmap.proofs.Found.{found_some, found_none}
use Rattle.bitmap_search.specs.Freed.{is_freed, next_freed}

module _ (p : ℕ) (b : List ℕ) (from to : ℕ) where
  pub next_some : {at : ℕ} → Some at ≡ next_freed p b from to →
      (at ≡ from + first_below (to - from) (λ k. is_freed p b (from + k))) × (first_below (to - from) (λ k. is_freed p b (from + k)) < to - from)
  next_some = found_some from (to - from) (λ k. is_freed p b (from + k))

  pub next_none : None ≡ next_freed p b from to → first_below (to - from) (λ k. is_freed p b (from + k)) ≡ to - from
  next_none = found_none from (to - from) (λ k. is_freed p b (from + k))

-- What a search among the pages finds.
use Rattle.std.specs.Prelude.{ℕ, ◌<◌, Option, Some, None, ◌≡◌}
use Rattle.units.specs.declared.Page.{Page}

-- page r, of a search among P pages; none where the search has come to P
abbrev pub FoundPage : ℕ → ℕ → Option Page → Type 0
FoundPage P r (Some page) = (page.0 ≡ r) × (r < P)
FoundPage P r None = r ≡ P

-- The run of free pages around a page.
use Rattle.std.specs.Prelude.{ℕ, ◌+◌, ◌-◌, not, List, if◌then◌else◌}
use Rattle.model.specs.Bounded.{◌≤?◌, first_below}
use Rattle.model.specs.Spans.{is_free}
use Rattle.model.specs.Allocate.{run_length}

-- the first page of the run of free pages that ends at page s or goes on behind it: page s less the free pages just below it. Page s itself is not
-- looked at, so the start is s where the page below is not free, or where s is page 0.
unfoldable pub run_start : List ℕ → ℕ → ℕ
run_start t s = s - first_below s (λ k. not (is_free t (s - (k + 1))))

-- the first page of the run of free pages around page s, which is free, if it has at least n pages, or P
abbrev pub run_around : ℕ → List ℕ → ℕ → ℕ → ℕ
run_around P t s n = if n ≤? run_length P t (run_start t s) then run_start t s else P

-- What lies in a cycle, or in its mark phase, does not set up, and no sweep step does.
use mathlib.Core.Path.{◌≡◌}
use mathlib.Core.Bool.{true, false}
use lib.Dec.{T}
use Rattle.marking.specs.Effect.{Effect, none, works, sweeps, ends, ◌is◌, same, lasting, in_cycle, in_marking, is_sweep}
use Rattle.marking.proofs.Updates.{and_left, or_case}

is_this : (e f : Effect) → T (e is f) → e ≡ f
is_this e f t = go (same e f) t
  where
    go : (d : Dec (e ≡ f)) → T (elim d [ yes p ↦ true | no p ↦ false ]) → e ≡ f
    go (yes p) t = p
    go (no n) t = absurd t

pub in_cycle_lasting : (e : Effect) → T (in_cycle e) → T (lasting e)
in_cycle_lasting e t = and_left (lasting e) _ t

pub in_marking_lasting : (e : Effect) → T (in_marking e) → T (lasting e)
in_marking_lasting e t = or_case (T (lasting e)) (e is none) (e is works) (λ u. rw (is_this e none u) tt) (λ u. rw (is_this e works u) tt) t

pub sweep_lasting : (e : Effect) → T (is_sweep e) → T (lasting e)
sweep_lasting e t = or_case (T (lasting e)) (e is sweeps) (e is ends) (λ u. rw (is_this e sweeps u) tt) (λ u. rw (is_this e ends u) tt) t

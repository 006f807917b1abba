-- The states, a part of the roots, are done.
use native.Mathlib.Omega.{arith}
use Rattle.model.specs.Memory.{first_state, stack_count}
use Rattle.call_cycle_roots.proofs.Starting.{grayed_state, part_changed}
use Rattle.call_cycle_roots.proofs.gray_stacks.Goals as goal

pub returns : goal.returns
returns c =
    let l = c.loop-state in
    part_changed grayed_state first_state stack_count c.args.roots.now l.state-items (omega arith) (omega arith) (λ k h. l.invariant.done k (omega arith))

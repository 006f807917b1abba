-- 64 bits are a number of whole elements and the rest, so either way back the result, 64 bits on, is `off` and whole elements.
use Prim.Native.Nat.{◌+◌, ◌-◌, ◌*◌, ◌/◌}
use mathlib.Core.Path.{◌≡◌}
use native.Mathlib.Nat.{div-add-mod', mod-lt, add-mod_right}
use native.Mathlib.Omega.{arith}
use Rattle.bitmap.proofs.FirstFree.{same_offset}
use Rattle.bitmap.proofs.next_start.Goals as goal

pub returns-then-off-rest : goal.returns-then-off-rest
returns-then-off-rest c =
    let a = c.args in
    let l = mod-lt 64 {m = a.size} (omega arith) in
    let e : a.off + (a.size - a.rest) + 64 ≡ a.off + 64 / a.size * a.size + a.size = omega (arith, div-add-mod' 64 a.size) in
    (omega arith, rw (e, add-mod_right) (same_offset a.size a.off (64 / a.size) c.requires.0))

pub returns-else-off-rest : goal.returns-else-off-rest
returns-else-off-rest c =
    let a = c.args in
    let e : (a.off - a.rest) + 64 ≡ a.off + 64 / a.size * a.size = omega (arith, div-add-mod' 64 a.size) in
    (omega arith, rw e (same_offset a.size a.off (64 / a.size) c.requires.0))

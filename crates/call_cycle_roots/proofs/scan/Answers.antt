-- Scanned already, or all values shaded.
use mathlib.Core.Path.{refl}
use native.Mathlib.Omega.{arith}
use Rattle.shading.proofs.References.{part_shaded}
use Rattle.call_cycle_roots.proofs.Scanning.{scan_all}
use Rattle.call_cycle_roots.proofs.scan.Goals as goal

pub shade_slice-count-requires : goal.shade_slice-count-requires
shade_slice-count-requires c = c.requires.values

pub returns : goal.returns
returns c =
    let a = c.args in
    λ arena. scan_all a.p arena a.table.now a.bits.now a.roots.now a.from a.n a.at c.if-roots-at-ne-GRAY.false
    (part_shaded a.roots.now a.from a.n _ refl (omega arith) c.shade_slice-count.ensures)

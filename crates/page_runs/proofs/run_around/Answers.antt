use native.Mathlib.Omega.{arith}
use mathlib.Core.Path.{◌≡◌, refl}
use borrow.Author.Tests.{le-leb}
use Rattle.model.specs.Allocate.{run_length}
use Rattle.page_runs.proofs.Around.{start_within}
use Rattle.page_runs.proofs.run_around.Goals as goal

pub run_length-pages-requires : goal.run_length-pages-requires
run_length-pages-requires c = (c.requires.0, omega (arith, start_within c.args.table.now c.args.s.0))

pub returns-then-n-pages : goal.returns-then-n-pages
returns-then-n-pages c =
    let counted : let a = c.args in c.run_length-pages.result ≡ run_length a.p a.table.now c.run_start-start.result.0 = omega arith in
    rw (← c.run_start-start.ensures, ← counted, le-leb c.args.n c.run_length-pages.result (omega arith)) (refl, omega (arith, start_within c.args.table.now c.args.s.0))

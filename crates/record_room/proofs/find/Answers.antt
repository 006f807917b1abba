-- `record_room::find` meets its contract. Each way out has its law in proofs/Room.antt.
use mathlib.Core.Path.{refl}
use native.Mathlib.Omega.{arith}
use Rattle.record_room.proofs.Room.{told, element_kept, found_old, found_new, found_none}
use Rattle.record_room.proofs.find.Goals as goal

pub element_for-requires : goal.element_for-requires
element_for-requires c = ((c.requires.0.0, c.args.roots.now, c.requires.0.1), told c.requires.0.1 refl)

pub returns-in-Some-clause-finds : goal.returns-in-Some-clause-finds
returns-in-Some-clause-finds c a F = record { found = found_old F _ _ (c.in-Some.ensures.sweeps a c.args.roots.now F) _ refl refl; same = refl }

pub pages_for-requires : goal.pages_for-requires
pages_for-requires c =
    let K = element_kept c.args.shape.kind c.requires.0.1 (c.in_default.ensures.sweeps c.requires.0.0 c.args.roots.now c.requires.0.1) in
    rw c.in_default.ensures.same.pages ((c.requires.0.0, c.args.roots.now, K), told K refl, c.requires.1)

pub first_word-requires : goal.first_word-requires
first_word-requires c =
    let a = c.requires.0.0 in
    let o = c.args.roots.now in
    let K = element_kept c.args.shape.kind c.requires.0.1 (c.in_default.ensures.sweeps a o c.requires.0.1) in
    let E = rw c.in_default.ensures.same.pages at c.in-Some-pages_for.ensures.sweeps in
    omega (arith, (E a o K).run, c.requires.0.1.sized.high)

pub returns-in-Some-pages_for-clause-finds : goal.returns-in-Some-pages_for-clause-finds
returns-in-Some-pages_for-clause-finds c a F =
    let o = c.args.roots.now in
    let D = c.in_default.ensures.sweeps a o F in
    let S = rw c.in_default.ensures.same.pages at c.in-Some-pages_for.ensures.sweeps in
    let E = S a o (element_kept c.args.shape.kind F D) in
    record { found = found_new F c.args.shape.kind c.args.shape.pages D E E.run _ c.first_word.ensures refl; same = refl }

pub returns-clause-finds : goal.returns-clause-finds
returns-clause-finds c a F =
    let o = c.args.roots.now in
    let D = c.in_default.ensures.sweeps a o F in
    let S = rw c.in_default.ensures.same.pages at c.in_default-pages_for.ensures.sweeps in
    let E = S a o (element_kept c.args.shape.kind F D) in
    record { found = found_none F c.args.shape.kind c.args.shape.pages D E E.run; same = tt }

use Prim.Native.Nat.{◌*◌}
use mathlib.Core.Path.{◌∙◌}
use native.Mathlib.Omega.{arith}
use Rattle.bitmap.proofs.FirstFree.{start_next, none_next, scan_free, found_free, none_free}
use Rattle.bitmap.proofs.first_free.Goals as goal

pub returns-then-free-lt-WORD_BITS : goal.returns-then-free-lt-WORD_BITS
returns-then-free-lt-WORD_BITS c =
    let a = c.args in
    let l = c.loop-at in
    let seen = scan_free a.ws.now c.requires.starts l.invariant.0 (c.type_inv.ws l.at).fits l.invariant.1 in
    c.then_some.ensures ∙ found_free a.ws.now a.first a.size a.count c.requires.some l.invariant.0 seen (omega arith)

pub loop-at-preserved : goal.loop-at-preserved
loop-at-preserved c =
    let l = c.loop-at in
    let at = l.invariant.0 in
    let n = c.next_start-next in
    let seen = scan_free c.args.ws.now c.requires.starts at (c.type_inv.ws l.at).fits l.invariant.1 in
    (start_next at n.result n.ensures.0 n.ensures.1, none_next c.args.ws.now n.result at n.ensures.0 n.ensures.1 seen (omega arith))

pub returns : goal.returns
returns c =
    let l = c.loop-at in
    let a = c.args in
    none_free a.ws.now a.first a.size a.count c.requires.some (l.at * 64) l.invariant.1 (omega arith)

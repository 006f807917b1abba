use Rattle.std.proofs.Common.{◌*◌, ◌∙◌, arith}
use Rattle.model.specs.Memory.{word_bits}
use Rattle.bitmap.proofs.Scan.{whole_word}
use Rattle.bitmap.proofs.Search.{masked_first, masked_next, none_passed, scan_from, found_bit, none_found}
use Rattle.bitmap_search.proofs.first_passing.Goals as goal

pub loop-at-init : goal.loop-at-init
loop-at-init g c = (masked_first c.args.from, λ t words. none_passed t c.args.from)

pub returns-then-passed-lt-WORD_BITS : goal.returns-then-passed-lt-WORD_BITS
returns-then-passed-lt-WORD_BITS g c t words =
    let l = c.loop-at in
    let seen = scan_from t c.word.result (words l.at c.word.result (omega arith) c.word.ensures) l.invariant.0 (l.invariant.1 t words) in
    c.then_some.ensures ∙ found_bit t c.args.from c.args.to c.requires.order seen (omega arith)

pub loop-at-preserved : goal.loop-at-preserved
loop-at-preserved g c =
    let l = c.loop-at in (
      masked_next l.invariant.0,
      λ t words. whole_word (scan_from t c.word.result (words l.at c.word.result (omega arith) c.word.ensures) l.invariant.0 (l.invariant.1 t words)) (omega arith),
    )

pub returns : goal.returns
returns g c t words =
    let l = c.loop-at in
    none_found t c.args.from c.args.to c.requires.order (l.at * word_bits) (l.invariant.1 t words) (omega arith)

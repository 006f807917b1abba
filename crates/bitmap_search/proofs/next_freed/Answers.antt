use Rattle.std.proofs.Common.{rules, ◌≡◌, ◌∙◌, ◌+◌, ◌*◌, arith, option_map}
use Rattle.model.specs.Memory.{page_blocks, marked_part}
use Rattle.units.specs.declared.Word.{Word}
use Rattle.bitmap_search.specs.Freed.{is_freed}
use Rattle.bitmap_search.proofs.Words.{freed_word}
use Rattle.bitmap_search.proofs.next_freed.Goals as goal

pub returns : goal.returns
returns c =
    let a = c.args in
    let b = a.bits.now in
    let marks = marked_part * (page_blocks * a.p) in
    let word : option_map (λ (w : Word). w.0) c.map.result ≡ c.first_passing.result = search rules in
    word ∙ c.first_passing.ensures (is_freed a.p b) (λ at w l e. freed_word a.p b marks at w (c.type_inv.bits (marks + at)).fits (omega arith) (omega arith) (search rules))

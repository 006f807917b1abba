use Rattle.std.proofs.Common.{rules, ap, ◌∙◌, arith, not}
use Rattle.std.specs.Option.{unwrap_or}
use Rattle.model.specs.Bitmaps.{bit_at}
use Rattle.bitmap.proofs.Found.{found_or}
use Rattle.bitmap_search.proofs.Words.{clear_word}
use Rattle.bitmap_search.proofs.first_clear.Goals as goal

pub returns : goal.returns
returns c =
    let a = c.args in
    let ws = a.ws.now in
    let clear = c.first_passing.ensures (λ i. not (bit_at ws i)) (λ at w l e. clear_word ws at w (c.type_inv.ws at).fits (search rules)) in
    c.unwrap_or.ensures ∙ ap (λ r. unwrap_or r a.to) clear ∙ found_or a.from _ _ a.to (omega arith)

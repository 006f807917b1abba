-- A block without bits keeps every rule; of another the two tests together are the rules of its words.
use mathlib.Core.Path.{sym, ◌∙◌}
use Rattle.audit_bits.proofs.BlockRules.{empty_keeps, colours_fail, colours_pass}
use Rattle.audit_bits.proofs.Blocks.block_ok.Goals as goal

pub returns-then-is_empty : goal.returns-then-is_empty
returns-then-is_empty c = empty_keeps c.args.self _ _ _ _ _ _ c.requires (sym c.if-is_empty.true ∙ (rw c.block-block.ensures at c.is_empty.ensures))

pub returns-else-colours_ok : goal.returns-else-colours_ok
returns-else-colours_ok c =
    c.if-colours_ok.false ∙ colours_fail c.args.self _ _ _ _ _ _ c.requires _ _ _ c.flag-marks.ensures c.flag-grays.ensures c.flag-scans.ensures _ _ c.starts_in.ensures c.below-inside.ensures _ c.block-block.ensures c.colours_ok.ensures c.if-colours_ok.false

pub returns-then-colours_ok : goal.returns-then-colours_ok
returns-then-colours_ok c =
    colours_pass c.args.self _ _ _ _ _ _ c.requires _ _ _ c.flag-marks.ensures c.flag-grays.ensures c.flag-scans.ensures _ _ c.starts_in.ensures c.below-inside.ensures _ c.block-block.ensures c.colours_ok.ensures c.if-colours_ok.true c.pointers_ok.ensures

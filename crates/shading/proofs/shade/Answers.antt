-- Each way out is one of the four cases of shading: nil, marked, scan, noscan.
use Rattle.shading.proofs.Shades.{nil_shades, marked_shades, noscan_shades, scan_shades}
use Rattle.shading.proofs.shade.Goals as goal

pub returns-then-is_nil : goal.returns-then-is_nil
returns-then-is_nil c = nil_shades _ _ _ _ c.if-is_nil.ensures

pub returns-then-test : goal.returns-then-test
returns-then-test c = marked_shades c.requires c.if-is_nil.ensures c.word-record.ensures c.if-test.ensures

pub returns-then-scan : goal.returns-then-scan
returns-then-scan c =
    scan_shades c.requires c.if-is_nil.ensures c.word-record.ensures c.if-test.ensures c.set.ensures c.span_with_word-scan.ensures.scan c.if-scan.true c.set-then-scan.ensures

pub returns-else-scan : goal.returns-else-scan
returns-else-scan c =
    noscan_shades c.requires c.if-is_nil.ensures c.word-record.ensures c.if-test.ensures c.set.ensures c.span_with_word-scan.ensures.scan c.if-scan.false

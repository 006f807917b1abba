-- `trace_write::write_decimal`: the measure is the number itself, which a division by 10 makes less.
use Rattle.trace_write.proofs.+write_decimal.Given as goal

abbrev pub decreases-write_decimal : goal.decreases-write_decimal
decreases-write_decimal l = l.n

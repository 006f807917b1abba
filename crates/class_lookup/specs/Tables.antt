-- The two tables in which the class of a size is looked up: how many entries each has, which size an entry stands for, and up to which size the
-- first is used.
use Rattle.std.specs.Prelude.{ℕ, ◌+◌, ◌*◌}

-- "129 entries, one per 8 bytes"
abbrev pub fine_entries : ℕ
fine_entries = 129

abbrev pub fine_step : ℕ
fine_step = 8

abbrev pub fine_size : ℕ → ℕ
fine_size i = fine_step * i

-- "for sizes up to 1,016"
abbrev pub fine_last : ℕ
fine_last = 1016

-- "and 249 entries, one per 128 bytes above 1,024"
abbrev pub coarse_entries : ℕ
coarse_entries = 249

abbrev pub coarse_start : ℕ
coarse_start = 1024

abbrev pub coarse_step : ℕ
coarse_step = 128

abbrev pub coarse_size : ℕ → ℕ
coarse_size i = coarse_start + coarse_step * i

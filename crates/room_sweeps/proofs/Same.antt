-- The tables that a sweep leaves, and another after it, are the same.
use mathlib.Core.Path.{refl, ◌∙◌}
use Rattle.room_sweeps.specs.Tables.{SameTables}
use Rattle.room_sweeps.specs.declared.Tables.{Tables}

pub same_on : {x y z : Tables} → SameTables x y → SameTables y z → SameTables x z
same_on S R = record {
  pages = R.pages ∙ S.pages;
  table = R.table ∙ S.table;
  bits = R.bits ∙ S.bits;
  table_length = R.table_length ∙ S.table_length;
  bits_length = R.bits_length ∙ S.bits_length;
}

pub same_first : {x : Tables} → SameTables x x
same_first = record { pages = refl; table = refl; bits = refl; table_length = refl; bits_length = refl }

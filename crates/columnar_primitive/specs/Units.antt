-- Columns of units, stored as their number.
use Rattle.std.specs.Prelude.{ℕ, List, [], ◌∷◌, length, ◌+◌, replicate}
use Rattle.columnar_base.specs.Row.{Row, unit, row_eq}
use Rattle.columnar_base.specs.Format.{Format, fault, unless}
use Rattle.columnar_base.specs.Elements.{first_slice, past_count}
use Rattle.columnar_primitive.specs.Counts.{is_word, number_in}

-- n units
abbrev pub units : ℕ → List Row
units n = replicate n unit

-- one slice of one word: the number of rows
abbrev pub units_format : Format
units_format = record {
  count = 1;
  sizes = 8 ∷ [];
  aligns = 8 ∷ [];
  turns = 0;
  broken = λ c. unless (is_word c) (fault 9 0);
  rows = λ c. units (number_in c);
  extent = λ c n. 8 ∷ [];
  build = first_slice;
  alike = row_eq;
  kin = row_eq;
  refuses = λ e c n rs. past_count e (n + length rs);
}

-- Numbers that are the same if their last decimal digits are.
use Rattle.std.specs.Prelude.{Bool, ◌%◌}
use Rattle.columnar_base.specs.Row.{Row, number, row_eq}
use Rattle.columnar_base.specs.Format.{Format}

-- the last decimal digit of a number
abbrev pub digit : Row → Row
digit (number n) = number (n % 10)
digit r = r

abbrev pub same_digit : Row → Row → Bool
same_digit r s = row_eq (digit r) (digit s)

-- the format t, with another relation of equal rows
abbrev pub kinned : (Row → Row → Bool) → Format → Format
kinned kin t = record {
  count = t.count;
  sizes = t.sizes;
  aligns = t.aligns;
  turns = t.turns;
  broken = t.broken;
  rows = t.rows;
  extent = t.extent;
  build = t.build;
  alike = t.alike;
  kin = kin;
  refuses = t.refuses;
}

-- Tuples of one column: each row is the tuple of the part's row.
use Rattle.std.specs.Prelude.{Bool, List, ◌&&◌, map}
use Rattle.columnar_base.specs.Row.{Row, unit, solo, row_eq}
use Rattle.columnar_base.specs.Format.{Format}

-- the one part of a tuple
abbrev pub only_of : Row → Row
only_of (solo r) = r
only_of _ = unit

-- a tuple of one without its part; any other row as it is
abbrev pub bare_solo : Row → Row
bare_solo (solo r) = solo unit
bare_solo r = r

abbrev pub solos : List Row → List Row
solos rs = map solo rs

abbrev pub onlies : List Row → List Row
onlies rs = map only_of rs

-- compares the parts
abbrev pub solo_alike : (Row → Row → Bool) → Row → Row → Bool
solo_alike a r s = row_eq (bare_solo r) (bare_solo s) && a (only_of r) (only_of s)

-- the column, with each row in a tuple
abbrev pub solo_format : Format → Format
solo_format a = record {
  count = a.count;
  sizes = a.sizes;
  aligns = a.aligns;
  turns = a.turns;
  broken = a.broken;
  rows = λ c. solos (a.rows c);
  extent = a.extent;
  build = a.build;
  alike = solo_alike a.alike;
  kin = solo_alike a.kin;
  refuses = λ e c n rs. a.refuses e c n (onlies rs);
}

-- Columns whose rows are computed from the rows of another column, which stores their values.
use Rattle.std.specs.Prelude.{ℕ, Bool, true, List, [], ◌∷◌, ◌++◌, length, ◌≡◌, ◌≤◌, ◌+◌, ◌&&◌, map}
use Rattle.columnar_base.specs.Row.{Row, row_eq}
use Rattle.columnar_base.specs.Format.{Format, Content, IsSound, IsExact, Excess, bytes_held, fault, unless}
use Rattle.columnar_base.specs.Elements.{past_count}

-- whether each row passes
abbrev pub all_pass : (Row → Bool) → List Row → Bool
all_pass test [] = true
all_pass test (r ∷ rs) = test r && all_pass test rs

-- The laws of columns that store each row in bytes of its own: rows are stored as they are pushed, only their number
-- limits them, and each takes at least one byte.
pub record IsFlat (f : Format) : Type 0 where
  pub exact : IsExact f.alike
  pub limits : (e : Excess) (c : Content) → IsSound f c → (n : ℕ) (rs : List Row) → f.refuses e c n rs ≡ past_count e (n + length rs)
  pub short : (c : Content) → IsSound f c → length (f.rows c) ≤ bytes_held c

-- The rows of f, mapped by `to`. The rows of f are values, and each must pass the test.
abbrev pub mapped_format : Format → (Row → Row) → (Row → Bool) → Format
mapped_format f to test = record {
  count = f.count;
  sizes = f.sizes;
  aligns = f.aligns;
  turns = 1;
  broken = λ c. f.broken c ++ unless (all_pass test (f.rows c)) (fault 14 0);
  rows = λ c. map to (f.rows c);
  extent = f.extent;
  build = f.build;
  alike = row_eq;
  kin = row_eq;
  refuses = λ e c n rs. past_count e (n + length rs);
}

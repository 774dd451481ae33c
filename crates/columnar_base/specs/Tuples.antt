-- Columns of equal length whose rows are tuples.
use Rattle.std.specs.Prelude.{ℕ, Bool, false, List, [], ◌∷◌, ◌++◌, length, ◌+◌, drop, ◌&&◌, ◌||◌, nat_eq, map}
use Rattle.columnar_base.specs.Row.{Row, tuple, first_of, second_of, bare_tuple, row_eq}
use Rattle.columnar_base.specs.Format.{Format, Content, slice, both, part, plain, Fault, two_broken, Excess}

-- pairwise, up to the end of the shorter list
abbrev pub tuples : List Row → List Row → List Row
tuples [] ss = []
tuples (r ∷ rs) [] = []
tuples (r ∷ rs) (s ∷ ss) = tuple r s ∷ tuples rs ss

-- the fields of the first part; the fields of the second
abbrev pub firsts : List Row → List Row
firsts rs = map first_of rs

abbrev pub seconds : List Row → List Row
seconds rs = map second_of rs

-- whether both parts have the same number of rows
abbrev pub pair_level : Format → Format → Content → Content → Bool
pair_level a b x y = nat_eq (length (a.rows x)) (length (b.rows y))

abbrev pub pair_broken : Format → Format → Content → List Fault
pair_broken a b = two_broken a b (pair_level a b) 10

abbrev pub pair_rows : Format → Format → Content → List Row
pair_rows a b (both x y) = tuples (a.rows x) (b.rows y)
pair_rows a b (slice bs) = []
pair_rows a b (part l u x) = []
pair_rows a b (plain rs) = []

abbrev pub pair_extent : Format → Format → Content → ℕ → List ℕ
pair_extent a b (both x y) n = a.extent x n ++ b.extent y n
pair_extent a b (slice bs) n = []
pair_extent a b (part l u x) n = []
pair_extent a b (plain rs) n = []

-- compares part by part
abbrev pub pair_alike : (Row → Row → Bool) → (Row → Row → Bool) → Row → Row → Bool
pair_alike a b r s = row_eq (bare_tuple r) (bare_tuple s) && (a (first_of r) (first_of s) && b (second_of r) (second_of s))

-- One of the parts refuses its fields of the rows.
abbrev pub pair_refuses : Format → Format → Excess → Content → ℕ → List Row → Bool
pair_refuses a b e (both x y) n rs = a.refuses e x n (firsts rs) || b.refuses e y n (seconds rs)
pair_refuses a b e (slice bs) n rs = false
pair_refuses a b e (part l u x) n rs = false
pair_refuses a b e (plain rs) n ss = false

-- two parts of equal length: each row is the tuple of the parts' rows
abbrev pub pair_format : Format → Format → Format
pair_format a b = record {
  count = a.count + b.count;
  sizes = a.sizes ++ b.sizes;
  aligns = a.aligns ++ b.aligns;
  turns = 16;
  broken = pair_broken a b;
  rows = pair_rows a b;
  extent = pair_extent a b;
  build = λ ss. both (a.build ss) (b.build (drop a.count ss));
  alike = pair_alike a.alike b.alike;
  kin = pair_alike a.kin b.kin;
  refuses = pair_refuses a b;
}

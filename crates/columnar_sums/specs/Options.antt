-- Columns of options: a bit for each row, and the values of the rows that have one.
use Rattle.std.specs.Prelude.{ℕ, Bool, true, false, List, [], ◌∷◌, ◌++◌, ◌≡◌, length, ◌+◌, drop, map, ◌&&◌, ◌||◌, nat_eq}
use Rattle.columnar_core.specs.Row.{Row, unit, none, some, row_eq}
use Rattle.columnar_core.specs.Format.{Format, Content, slice, both, part, plain, Fault, two_broken, Excess}
use Rattle.columnar_core.specs.Elements.{past_count}
use Rattle.columnar_sums.specs.Counting.{ones}
use Rattle.columnar_sums.specs.RankColumns.{ranks_bits, ranks_format}

-- a set bit takes the next value, a clear bit is none
abbrev pub weave : List Bool → List Row → List Row
weave [] vs = []
weave (false ∷ b) vs = none ∷ weave b vs
weave (true ∷ b) (v ∷ vs) = some v ∷ weave b vs
weave (true ∷ b) [] = some unit ∷ weave b []

-- the value of a row that has one
abbrev pub value_of : Row → List Row
value_of (some r) = r ∷ []
value_of _ = []

-- the values of the rows that have one
abbrev pub somes : List Row → List Row
somes [] = []
somes (r ∷ rs) = value_of r ++ somes rs

-- the row in an option, without the option; any other row unchanged
abbrev pub inner_of : Row → Row
inner_of (some r) = r
inner_of _ = unit

abbrev pub bare_option : Row → Row
bare_option (some r) = some unit
bare_option r = r

-- there are as many values as set bits
abbrev pub options_level : Format → Content → Content → Bool
options_level t x y = nat_eq (ones (ranks_bits x) (length (ranks_bits x))) (length (t.rows y))

abbrev pub options_broken : Format → Content → List Fault
options_broken t = two_broken ranks_format t (options_level t) 10

abbrev pub options_rows : Format → Content → List Row
options_rows t (both x y) = weave (ranks_bits x) (t.rows y)
options_rows t (slice bs) = []
options_rows t (part l u x) = []
options_rows t (plain rs) = []

-- the extents of n bits, and of the values of the set bits among them
abbrev pub options_extent : Format → Content → ℕ → List ℕ
options_extent t (both x y) n = ranks_format.extent x n ++ t.extent y (ones (ranks_bits x) n)
options_extent t (slice bs) n = []
options_extent t (part l u x) n = []
options_extent t (plain rs) n = []

-- none represents none; otherwise the values decide
abbrev pub option_alike : (Row → Row → Bool) → Row → Row → Bool
option_alike same r s = row_eq (bare_option r) (bare_option s) && same (inner_of r) (inner_of s)

-- There are too many rows, or the column cannot hold the values.
abbrev pub options_refuses : Format → Excess → Content → ℕ → List Row → Bool
options_refuses t e (both x y) n rs = past_count e (n + length rs) || t.refuses e y (ones (ranks_bits x) n) (somes rs)
options_refuses t e (slice bs) n rs = false
options_refuses t e (part l u x) n rs = false
options_refuses t e (plain rs) n ss = false

-- counted bits, and a value for each set bit
abbrev pub options_format : Format → Format
options_format t = record {
  count = 3 + t.count;
  sizes = 8 ∷ 8 ∷ 8 ∷ t.sizes;
  aligns = 8 ∷ 8 ∷ 8 ∷ t.aligns;
  turns = 16;
  broken = options_broken t;
  rows = options_rows t;
  extent = options_extent t;
  build = λ ss. both (ranks_format.build ss) (t.build (drop 3 ss));
  alike = option_alike t.alike;
  kin = option_alike t.kin;
  refuses = options_refuses t;
}

-- every row has a value; no row has one
abbrev pub AreSome : List Row → Type 0
AreSome rs = rs ≡ map some (somes rs)

abbrev pub AreNone : List Row → Type 0
AreNone rs = somes rs ≡ []

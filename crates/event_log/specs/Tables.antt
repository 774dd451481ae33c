-- The table of a batch.
use Rattle.std.specs.Prelude.{ℕ, Bool, List, ◌+◌, ◌*◌, ◌||◌, nat_eq}
use Rattle.std.specs.Int.{w64, to_le_bytes}
use Rattle.std.specs.List.{starts_with}
use Rattle.columnar_core.specs.Format.{Format}

-- the number of bytes of the table of each batch
abbrev pub table_bytes : Format → ℕ
table_bytes f = 8 * (f.count + 1)

-- A store whose table has this number of bytes could start with these bytes: they are a prefix of its first word, or
-- start with it.
abbrev pub begins_with_table : ℕ → List ℕ → Bool
begins_with_table table tail = starts_with nat_eq tail (to_le_bytes w64 table) || starts_with nat_eq (to_le_bytes w64 table) tail

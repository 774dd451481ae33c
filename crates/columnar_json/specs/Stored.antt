-- The rows of a type in the slices of a store, from slice o on.
use Rattle.std.specs.Prelude.{ℕ, Bool, true, false, List, [], map, take, drop, codes}
use Rattle.std.specs.List.{flat_map}
use Rattle.columnar_base.specs.Row.{Row}
use Rattle.columnar_syntax.specs.declared.schema.Schema.{Schema}
use Rattle.columnar_schema.specs.Formats.{bank_of, format_of}
use Rattle.columnar_json.specs.Json.{commas, flaws_of, json_of, row_at}
use Rattle.columnar_json.specs.Pieces.{Piece}
use Rattle.columnar_json.specs.declared.unwritten.Unwritten.{Unwritten}

abbrev pub stored_rows : Schema → List (List ℕ) → ℕ → List Row
stored_rows s ss o = (format_of s).rows ((format_of s).build (drop o ss))

abbrev pub stored_row : Schema → List (List ℕ) → ℕ → ℕ → Row
stored_row s ss o i = row_at (stored_rows s ss o) i

-- the values of variant v among the variants of an enum
abbrev pub stored_values : Schema → List (List ℕ) → ℕ → ℕ → List Row
stored_values s ss o v = (bank_of s).table ((bank_of s).sides.build (drop o ss)) v

-- the texts and the flaws of n rows from row l on
abbrev pub items_json : Schema → List Row → ℕ → ℕ → List Piece
items_json t rs l n = commas (map (json_of t) (take n (drop l rs)))

abbrev pub items_flaws : Schema → List Row → ℕ → ℕ → List Unwritten
items_flaws t rs l n = flat_map (flaws_of t) (take n (drop l rs))

-- what stands before an item
abbrev pub comma : Bool → List ℕ
comma true = []
comma false = codes ","

-- The limit of a column of entries: a number, three optional numbers, and a text that is stored once if it repeats the
-- previous one.
use Rattle.std.specs.Int.{w32, w64}
use Rattle.std.specs.Prelude.{[], ◌∷◌, ◌++◌}
use Rattle.columnar_core.specs.declared.fault.GrowError.{GrowError}
use Rattle.columnar.specs.Change.{Refused}
use Rattle.columnar.specs.Elements.{elements_format, words_format}
use Rattle.columnar.specs.Fixed.{fixed_format}
use Rattle.columnar.specs.Format.{Format, Content, IsSound}
use Rattle.columnar.specs.Lists.{lists_format}
use Rattle.columnar.specs.May.{Limit, Denied, count_limit, pair_limit}
use Rattle.columnar.specs.MayLists.{lists_limit}
use Rattle.columnar.specs.MayMultiples.{multiples_limit}
use Rattle.columnar.specs.MayRecall.{recall_limit}
use Rattle.columnar.specs.MaySums.{options_limit}
use Rattle.columnar.specs.Numbers.{unsigned_row_of}
use Rattle.columnar.specs.Options.{options_format}
use Rattle.columnar.specs.Repeats.{repeats_format}
use Rattle.columnar.specs.Row.{Row}
use Rattle.columnar.specs.Strings.{strings_format}
use Rattle.columnar.specs.Tuples.{pair_format}

-- More than 2^64 - 1 entries, or numbers in all threes, or bytes in all texts; or a list that is not of length three.
abbrev pub entries_limit : Limit
entries_limit = pair_limit count_limit (pair_limit (lists_limit (multiples_limit 3) (options_limit count_limit)) (recall_limit (lists_limit count_limit count_limit)))

abbrev pub numbers_format : Format
numbers_format = elements_format 8 8 (unsigned_row_of w64)

abbrev pub threes_format : Format
threes_format = lists_format (fixed_format 3) (options_format (elements_format 4 4 (unsigned_row_of w32)))

abbrev pub texts_format : Format
texts_format = repeats_format (strings_format words_format)

abbrev pub entries_format : Format
entries_format = pair_format numbers_format (pair_format threes_format texts_format)

-- A refused entry is denied together with the existing rows.
abbrev pub RefusedAreDenied : Type 0
RefusedAreDenied = (old new : Content) (entry : Row) (error : GrowError) → IsSound entries_format old → Refused entries_format old new (entry ∷ []) error → Denied error entries_limit (entries_format.rows old ++ entry ∷ [])

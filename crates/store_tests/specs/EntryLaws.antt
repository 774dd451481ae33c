-- The limit of entries follows from the limits of their parts.
use Rattle.std.specs.Int.{w32, w64}
use Rattle.columnar.specs.Elements.{elements_format, words_format, word_row_of}
use Rattle.columnar.specs.Fixed.{fixed_format}
use Rattle.columnar.specs.May.{IsLimited}
use Rattle.columnar.specs.MayLaws.{elements_limited, pair_limited, refused_denied}
use Rattle.columnar.specs.MayListLaws.{lists_limited, words_numbered}
use Rattle.columnar.specs.MayRecallLaws.{repeats_limited}
use Rattle.columnar.specs.MayStringLaws.{strings_limited}
use Rattle.columnar.specs.MaySumLaws.{options_limited}
use Rattle.columnar.specs.MayValueLaws.{fixed_limited, multiples_numbered}
use Rattle.columnar.specs.Numbers.{unsigned_row_of}
use Rattle.columnar.specs.Options.{options_format}
use Rattle.columnar.specs.Strings.{strings_format}
use Rattle.columnar.specs.Tuples.{pair_format}
use Rattle.store_tests.specs.Entries.{entries_limit, numbers_format, threes_format, texts_format, entries_format, RefusedAreDenied}

-- built part by part, like the type
pub entries_limited : IsLimited entries_format entries_limit
entries_limited =
    let small = elements_format 4 4 (unsigned_row_of w32) in
    let threes = lists_limited (fixed_format 3) (options_format small) (multiples_numbered 3) (fixed_limited 3) (options_limited small (elements_limited 4 4 (unsigned_row_of w32))) in
    let texts = repeats_limited (strings_format words_format) (strings_limited words_format words_numbered (elements_limited 8 8 word_row_of)) in
    pair_limited numbers_format (pair_format threes_format texts_format) (elements_limited 8 8 (unsigned_row_of w64)) (pair_limited threes_format texts_format threes texts)

pub entry_denied : RefusedAreDenied
entry_denied old new entry error s g = refused_denied error entries_limited s g

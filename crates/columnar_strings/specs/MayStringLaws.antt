-- The limit of lists of bytes denies what columns of strings refuse.
use Rattle.std.specs.Int.{w8}
use Rattle.columnar_base.specs.Format.{Format}
use Rattle.columnar_base.specs.May.{Limit, IsLimited, count_limit}
use Rattle.columnar_base.specs.MayLaws.{elements_limited}
use Rattle.columnar_base.specs.Numbers.{unsigned_row_of}
use Rattle.columnar_core.specs.Bounds.{AreNumbers}
use Rattle.columnar_lists.specs.MayLists.{lists_limit}
use Rattle.columnar_lists.specs.MayListLaws.{lists_limited}
use Rattle.columnar_strings.specs.Strings.{strings_format}
use Rattle.columnar_base.specs.Elements.{bytes_format}

pub strings_limited : (b : Format) {m : Limit} → AreNumbers b → IsLimited b m → IsLimited (strings_format b) (lists_limit m count_limit)
strings_limited b numbered l = lists_limited b bytes_format numbered l (elements_limited 1 1 (unsigned_row_of w8))

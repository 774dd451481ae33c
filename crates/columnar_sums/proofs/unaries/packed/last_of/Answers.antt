use Rattle.std.proofs.Common.{arith}
use Rattle.columnar_core.specs.Elements.{words_format}
use Rattle.columnar_core.specs.Format.{slice}
use Rattle.columnar_core.specs.WordViews.{le_bytes}
use Rattle.columnar_sums.specs.PackedLaws.{last_is}
use Rattle.columnar_sums.proofs.unaries.packed.last_of.Goals as goal

pub returns-else-len-eq0 : goal.returns-else-len-eq0
returns-else-len-eq0 c = last_is (words_format.rows (slice (le_bytes c.args.offsets.now.items))) c.len-len.result c.get.result c.len-len.ensures (omega (arith, c.if-len-eq0.false)) c.get.type_inv c.get.ensures.row

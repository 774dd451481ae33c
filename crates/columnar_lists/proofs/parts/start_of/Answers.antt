use Rattle.std.proofs.Common.{◌<◌, arith}
use Rattle.columnar_core.specs.BoundLaws.{number_before}
use Rattle.columnar_lists.proofs.parts.start_of.Goals as goal

pub returns-else-index-eq0 : goal.returns-else-index-eq0
returns-else-index-eq0 g c = let l : 0 < c.args.index = omega arith in number_before (g.BC.Column.format.rows (g.BC.Column.content c.args.bounds.now)) c.args.index c.offset.result l c.offset.ensures

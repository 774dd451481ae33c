use Rattle.columnar_base.specs.RoomLaws.{pair_frees}
use Rattle.columnar_base.proofs.tuple.Tuple2Clear.clear.Goals as goal

pub returns-clause-freed : goal.returns-clause-freed
returns-clause-freed g c = pair_frees g.A.Column.format g.B.Column.format 0 c.clear.ensures.freed c.clear-2.ensures.freed

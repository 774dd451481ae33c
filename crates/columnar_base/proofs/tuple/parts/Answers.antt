use Rattle.columnar_base.specs.TupleLaws.{pair_parts}
use Rattle.columnar_base.proofs.tuple.parts.Goals as goal

pub returns-clause-first : goal.returns-clause-first
returns-clause-first g c = (pair_parts g.A.Column.format g.B.Column.format c.requires).left

pub returns-clause-second : goal.returns-clause-second
returns-clause-second g c = (pair_parts g.A.Column.format g.B.Column.format c.requires).right

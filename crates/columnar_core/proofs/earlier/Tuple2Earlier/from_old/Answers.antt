use Rattle.columnar_base.specs.ChangeLaws.{passed_on}
use Rattle.columnar_base.specs.TupleLaws.{pair_parts}
use Rattle.columnar_core.specs.EarlierLaws.{pair_made, pair_not_left, pair_not_right}
use Rattle.columnar_core.proofs.earlier.Tuple2Earlier.from_old.Goals as goal

pub from_old-requires : goal.from_old-requires
from_old-requires g c = (pair_parts g.A.Old.Column.format g.B.Old.Column.format c.requires).left

pub returns-in_err-left-clause-err : goal.returns-in_err-left-clause-err
returns-in_err-left-clause-err g c = rw (passed_on c.from_residual.result c.from_residual.ensures.1) (pair_not_left g.A.Old.Column.format g.A.Column.format g.B.Old.Column.format g.B.Column.format c.in_err-left.field-0.0 c.requires c.in_err-left.ensures.err)

pub from_old-requires-2 : goal.from_old-requires-2
from_old-requires-2 g c = (pair_parts g.A.Old.Column.format g.B.Old.Column.format c.requires).right

pub returns-in_err-right-clause-err : goal.returns-in_err-right-clause-err
returns-in_err-right-clause-err g c = rw (passed_on c.from_residual-in_err-right.result c.from_residual-in_err-right.ensures.1) (pair_not_right g.A.Old.Column.format g.A.Column.format g.B.Old.Column.format g.B.Column.format c.in_err-right.field-0.0 c.requires c.in_err-right.ensures.err)

pub returns-clause-ok : goal.returns-clause-ok
returns-clause-ok g c = pair_made g.A.Old.Column.format g.A.Column.format g.B.Old.Column.format g.B.Column.format c.requires c.in_ok-left.ensures.ok c.in_ok-right.ensures.ok

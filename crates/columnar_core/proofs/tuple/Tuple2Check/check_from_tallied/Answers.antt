use Rattle.columnar_base.specs.TwoPartsLaws.{representable_left, representable_right, judged_part}
use Rattle.columnar_base.specs.TupleLaws.{pair_two}
use Rattle.columnar_base.specs.Faults.{fault_of}
use Rattle.columnar_base.specs.ChangeLaws.{passed_on}
use Rattle.columnar_core.proofs.tuple.Tuple2Check.check_from_tallied.Goals as goal

pub check_two-requires-clause-left : goal.check_two-requires-clause-left
check_two-requires-clause-left g c = representable_left (pair_two g.A.Column.format g.B.Column.format) c.requires.representable

pub check_two-requires-clause-right : goal.check_two-requires-clause-right
check_two-requires-clause-right g c = representable_right (pair_two g.A.Column.format g.B.Column.format) c.requires.representable

pub returns-in_err-check_two-clause-exact : goal.returns-in_err-check_two-clause-exact
returns-in_err-check_two-clause-exact g c = rw (passed_on c.from_residual.result c.from_residual.ensures.1) (judged_part (pair_two g.A.Column.format g.B.Column.format) (g.A.Column.content c.args.self.now.0) (g.B.Column.content c.args.self.now.1) c.args.from (fault_of c.in_err-check_two.field-0.0) c.in_err-check_two.ensures.exact)

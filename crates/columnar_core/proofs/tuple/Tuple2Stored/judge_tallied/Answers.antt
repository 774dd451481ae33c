use Rattle.columnar_base.specs.TwoPartsLaws.{representable_left, representable_right, judged_part_at}
use Rattle.columnar_base.specs.TupleLaws.{pair_two}
use Rattle.columnar_base.specs.Faults.{fault_of}
use Rattle.columnar_base.specs.ChangeLaws.{passed_on}
use Rattle.columnar_core.specs.Store.{slices_in}
use Rattle.columnar_core.proofs.tuple.Tuple2Stored.judge_tallied.Goals as goal

pub judge_two-requires-clause-left : goal.judge_two-requires-clause-left
judge_two-requires-clause-left g c = representable_left (pair_two g.A.Column.format g.B.Column.format) c.requires.representable

pub judge_two-requires-clause-right : goal.judge_two-requires-clause-right
judge_two-requires-clause-right g c = representable_right (pair_two g.A.Column.format g.B.Column.format) c.requires.representable

pub returns-in_err-judge_two-clause-exact : goal.returns-in_err-judge_two-clause-exact
returns-in_err-judge_two-clause-exact g c = rw (passed_on c.from_residual.result c.from_residual.ensures.1) (judged_part_at (pair_two g.A.Column.format g.B.Column.format) (slices_in c.args.store.now) c.args.offset (fault_of c.in_err-judge_two.field-0.0) c.in_err-judge_two.ensures.exact)

pub rows_in-rows-requires-clause-representable : goal.rows_in-rows-requires-clause-representable
rows_in-rows-requires-clause-representable g c = representable_left (pair_two g.A.Column.format g.B.Column.format) c.requires.representable

pub slice_count-requires : goal.slice_count-requires
slice_count-requires g c = representable_left (pair_two g.A.Column.format g.B.Column.format) c.requires.representable

pub rows_in-requires-clause-representable : goal.rows_in-requires-clause-representable
rows_in-requires-clause-representable g c = representable_right (pair_two g.A.Column.format g.B.Column.format) c.requires.representable

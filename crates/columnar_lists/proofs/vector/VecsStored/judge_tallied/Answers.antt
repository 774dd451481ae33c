use Rattle.std.proofs.Common.{◌∙◌, sym}
use Rattle.columnar_base.specs.TwoPartsLaws.{representable_left, representable_right, judged_part_at, judged_fine_at, judged_own_at}
use Rattle.columnar_base.specs.Faults.{fault_of}
use Rattle.columnar_core.specs.Store.{slices_in}
use Rattle.columnar_lists.specs.ListLaws.{lists_two}
use Rattle.columnar_base.specs.ChangeLaws.{passed_on}
use Rattle.columnar_lists.proofs.vector.VecsStored.judge_tallied.Goals as goal

pub judge_two-requires-clause-left : goal.judge_two-requires-clause-left
judge_two-requires-clause-left g c = representable_left (lists_two g.BC.Column.format g.TC.Column.format) c.requires.representable

pub judge_two-requires-clause-right : goal.judge_two-requires-clause-right
judge_two-requires-clause-right g c = representable_right (lists_two g.BC.Column.format g.TC.Column.format) c.requires.representable

pub returns-in_err-judge_two-clause-exact : goal.returns-in_err-judge_two-clause-exact
returns-in_err-judge_two-clause-exact g c = rw (passed_on c.from_residual.result c.from_residual.ensures.1) (judged_part_at (lists_two g.BC.Column.format g.TC.Column.format) (slices_in c.args.store.now) c.args.offset (fault_of c.in_err-judge_two.field-0.0) c.in_err-judge_two.ensures.exact)

pub slice_count-requires : goal.slice_count-requires
slice_count-requires g c = representable_left (lists_two g.BC.Column.format g.TC.Column.format) c.requires.representable

pub rows_in-values-requires-clause-representable : goal.rows_in-values-requires-clause-representable
rows_in-values-requires-clause-representable g c = representable_right (lists_two g.BC.Column.format g.TC.Column.format) c.requires.representable

pub rises_in_tallied-requires-clause-representable : goal.rises_in_tallied-requires-clause-representable
rises_in_tallied-requires-clause-representable g c = representable_left (lists_two g.BC.Column.format g.TC.Column.format) c.requires.representable

pub returns-then-rises_in_tallied-clause-exact : goal.returns-then-rises_in_tallied-clause-exact
returns-then-rises_in_tallied-clause-exact g c = judged_fine_at (lists_two g.BC.Column.format g.TC.Column.format) (slices_in c.args.store.now) c.args.offset c.in_ok-judge_two.ensures.exact (rw (c.rows_in-values.ensures, c.slice_count.ensures) at (sym c.rises_in_tallied.ensures.value ∙ c.if-rises_in_tallied.true))

pub returns-else-rises_in_tallied-clause-exact : goal.returns-else-rises_in_tallied-clause-exact
returns-else-rises_in_tallied-clause-exact g c = judged_own_at (lists_two g.BC.Column.format g.TC.Column.format) (slices_in c.args.store.now) c.args.offset c.in_ok-judge_two.ensures.exact (rw (c.rows_in-values.ensures, c.slice_count.ensures) at (sym c.rises_in_tallied.ensures.value ∙ c.if-rises_in_tallied.false))

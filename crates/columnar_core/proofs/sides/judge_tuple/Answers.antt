use Rattle.std.proofs.Common.{sym, ◌∙◌, ◌∷◌}
use Rattle.columnar_base.specs.Faults.{fault_of}
use Rattle.columnar_base.specs.FaultLaws.{fits_from}
use Rattle.columnar_base.specs.ChangeLaws.{passed_on}
use Rattle.columnar_base.specs.TwoPartsLaws.{representable_left, representable_right, two_fits_left, two_fits_right}
use Rattle.columnar_base.specs.LongTuples.{sides}
use Rattle.columnar_base.specs.LongTupleLaws.{sides_two, tuple_two}
use Rattle.columnar_core.specs.Store.{slices_in}
use Rattle.columnar_core.specs.SidesLaws.{judged_parts, judged_level, judged_uneven}
use Rattle.columnar_core.proofs.sides.judge_tuple.Goals as goal

pub judge_parts-requires-clause-representable : goal.judge_parts-requires-clause-representable
judge_parts-requires-clause-representable g c = c.requires.representable

pub judge_parts-requires-clause-room : goal.judge_parts-requires-clause-room
judge_parts-requires-clause-room g c = c.requires.room

pub returns-in_err-judge_parts-clause-exact : goal.returns-in_err-judge_parts-clause-exact
returns-in_err-judge_parts-clause-exact g c = rw (passed_on c.from_residual.result c.from_residual.ensures.1) (judged_parts (tuple_two g.A.Column.format g.R.Sides.head g.R.Sides.others) (sides_two g.A.Column.format g.R.Sides.head g.R.Sides.others) (slices_in c.args.store.now) c.args.offset (fault_of c.in_err-judge_parts.field-0.0) c.in_err-judge_parts.ensures.exact)

pub slice_count-requires : goal.slice_count-requires
slice_count-requires g c = representable_left (tuple_two g.A.Column.format g.R.Sides.head g.R.Sides.others) c.requires.representable

pub rows_in-requires-clause-representable : goal.rows_in-requires-clause-representable
rows_in-requires-clause-representable g c = representable_left (tuple_two g.A.Column.format g.R.Sides.head g.R.Sides.others) c.requires.representable

pub rows_in-requires-clause-fits : goal.rows_in-requires-clause-fits
rows_in-requires-clause-fits g c = two_fits_left (sides_two g.A.Column.format g.R.Sides.head g.R.Sides.others) c.args.offset (slices_in c.args.store.now) (fits_from (sides g.A.Column.format (g.R.Sides.head ∷ g.R.Sides.others)) c.args.offset (slices_in c.args.store.now) c.requires.room c.in_ok-judge_parts.ensures.exact)

pub rows_agree-requires-clause-representable : goal.rows_agree-requires-clause-representable
rows_agree-requires-clause-representable g c = representable_right (tuple_two g.A.Column.format g.R.Sides.head g.R.Sides.others) c.requires.representable

pub rows_agree-requires-clause-fits : goal.rows_agree-requires-clause-fits
rows_agree-requires-clause-fits g c = rw c.slice_count.ensures (two_fits_right (sides_two g.A.Column.format g.R.Sides.head g.R.Sides.others) c.args.offset (slices_in c.args.store.now) (fits_from (sides g.A.Column.format (g.R.Sides.head ∷ g.R.Sides.others)) c.args.offset (slices_in c.args.store.now) c.requires.room c.in_ok-judge_parts.ensures.exact))

pub returns-then-rows_agree-clause-exact : goal.returns-then-rows_agree-clause-exact
returns-then-rows_agree-clause-exact g c = judged_level (tuple_two g.A.Column.format g.R.Sides.head g.R.Sides.others) (sides_two g.A.Column.format g.R.Sides.head g.R.Sides.others) (slices_in c.args.store.now) c.args.offset c.in_ok-judge_parts.ensures.exact (rw (c.slice_count.ensures, c.rows_in.ensures) at (sym c.rows_agree.ensures ∙ c.if-rows_agree.true))

pub returns-else-rows_agree-clause-exact : goal.returns-else-rows_agree-clause-exact
returns-else-rows_agree-clause-exact g c = judged_uneven (tuple_two g.A.Column.format g.R.Sides.head g.R.Sides.others) (sides_two g.A.Column.format g.R.Sides.head g.R.Sides.others) (slices_in c.args.store.now) c.args.offset c.in_ok-judge_parts.ensures.exact (rw (c.slice_count.ensures, c.rows_in.ensures) at (sym c.rows_agree.ensures ∙ c.if-rows_agree.false))

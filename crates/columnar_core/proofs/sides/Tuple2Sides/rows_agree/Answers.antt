use Rattle.std.proofs.Common.{◌∙◌}
use Rattle.columnar_base.specs.TwoPartsLaws.{representable_left, representable_right, two_fits_left, two_fits_right}
use Rattle.columnar_base.specs.LongTupleLaws.{sides_two}
use Rattle.columnar_core.specs.Store.{slices_in}
use Rattle.columnar_core.specs.SidesLaws.{level_others}
use Rattle.columnar_core.proofs.sides.Tuple2Sides.rows_agree.Goals as goal

pub rows_in-requires-clause-representable : goal.rows_in-requires-clause-representable
rows_in-requires-clause-representable g c = representable_left (sides_two g.A.Column.format g.R.Sides.head g.R.Sides.others) c.requires.representable

pub rows_in-requires-clause-fits : goal.rows_in-requires-clause-fits
rows_in-requires-clause-fits g c = two_fits_left (sides_two g.A.Column.format g.R.Sides.head g.R.Sides.others) c.args.offset (slices_in c.args.store.now) c.requires.fits

pub slice_count-requires : goal.slice_count-requires
slice_count-requires g c = representable_left (sides_two g.A.Column.format g.R.Sides.head g.R.Sides.others) c.requires.representable

pub rows_agree-requires-clause-representable : goal.rows_agree-requires-clause-representable
rows_agree-requires-clause-representable g c = representable_right (sides_two g.A.Column.format g.R.Sides.head g.R.Sides.others) c.requires.representable

pub rows_agree-requires-clause-fits : goal.rows_agree-requires-clause-fits
rows_agree-requires-clause-fits g c = rw c.slice_count.ensures (two_fits_right (sides_two g.A.Column.format g.R.Sides.head g.R.Sides.others) c.args.offset (slices_in c.args.store.now) c.requires.fits)

pub returns-then-rows-rows_in : goal.returns-then-rows-rows_in
returns-then-rows-rows_in g c = level_others g.A.Column.format g.R.Sides.head g.R.Sides.others (slices_in c.args.store.now) c.args.offset c.slice_count.result c.args.rows c.rows_agree.result c.slice_count.ensures (c.if-rows-rows_in.true ∙ c.rows_in.ensures) c.rows_agree.ensures

use Rattle.std.specs.Prelude.{slice_index}
use Rattle.columnar_base.specs.TwoPartsLaws.{representable_left, representable_right, two_fits_left, two_fits_right}
use Rattle.columnar_core.specs.Store.{slices_in}
use Rattle.columnar_variants.specs.BankByteLaws.{beside_parts_two, told_then_at, told_else_at}
use Rattle.columnar_variants.proofs.bank.bytes.Tuple2StoredBank.have_values.Goals as goal

pub rows_in-requires-clause-representable : goal.rows_in-requires-clause-representable
rows_in-requires-clause-representable g c = representable_left (beside_parts_two g.A.Column.format g.B.ColumnBank.bank.sides) c.requires.representable

pub rows_in-requires-clause-fits : goal.rows_in-requires-clause-fits
rows_in-requires-clause-fits g c = two_fits_left (beside_parts_two g.A.Column.format g.B.ColumnBank.bank.sides) c.args.offset (slices_in c.args.store.now) c.requires.fits

pub slice_count-requires : goal.slice_count-requires
slice_count-requires g c = representable_left (beside_parts_two g.A.Column.format g.B.ColumnBank.bank.sides) c.requires.representable

pub have_values-requires-clause-representable : goal.have_values-requires-clause-representable
have_values-requires-clause-representable g c = representable_right (beside_parts_two g.A.Column.format g.B.ColumnBank.bank.sides) c.requires.representable

pub have_values-requires-clause-fits : goal.have_values-requires-clause-fits
have_values-requires-clause-fits g c = rw c.slice_count.ensures (two_fits_right (beside_parts_two g.A.Column.format g.B.ColumnBank.bank.sides) c.args.offset (slices_in c.args.store.now) c.requires.fits)

pub returns-then-rows_in-first_count : goal.returns-then-rows_in-first_count
returns-then-rows_in-first_count g c = told_then_at g.A.Column.format g.B.ColumnBank.bank (slices_in c.args.store.now) c.args.offset c.slice_count.result (slice_index c.args.counts.now) (slice_index c.other_counts.result.now) c.rows_in.result c.first_count.result c.have_values.result c.slice_count.ensures c.rows_in.ensures c.first_count.ensures c.other_counts.ensures c.have_values.ensures c.if-rows_in-first_count.true

pub returns-else-rows_in-first_count : goal.returns-else-rows_in-first_count
returns-else-rows_in-first_count g c = told_else_at g.A.Column.format g.B.ColumnBank.bank (slices_in c.args.store.now) c.args.offset (slice_index c.args.counts.now) c.rows_in.result c.first_count.result c.rows_in.ensures c.first_count.ensures c.if-rows_in-first_count.false

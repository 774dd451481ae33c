use Rattle.std.proofs.Common.{sym, ◌∙◌}
use Rattle.columnar_base.specs.TwoPartsLaws.{representable_left}
use Rattle.columnar_base.specs.TupleLaws.{pair_two, pair_fits, fits_level}
use Rattle.columnar_core.specs.Store.{slices_in}
use Rattle.columnar_core.proofs.tuple.Tuple2Stored.rows_in.Goals as goal

pub rows_in-requires-clause-representable : goal.rows_in-requires-clause-representable
rows_in-requires-clause-representable g c = representable_left (pair_two g.A.Column.format g.B.Column.format) c.requires.representable

pub rows_in-requires-clause-fits : goal.rows_in-requires-clause-fits
rows_in-requires-clause-fits g c = (pair_fits g.A.Column.format g.B.Column.format c.args.offset (slices_in c.args.store.now) c.requires.fits).0

pub returns : goal.returns
returns g c = c.rows_in.ensures ∙ sym (fits_level g.A.Column.format g.B.Column.format c.args.offset (slices_in c.args.store.now) c.requires.fits)

use Rattle.std.proofs.Common.{sym, ◌∙◌}
use Rattle.columnar_base.specs.TwoPartsLaws.{representable_left}
use Rattle.columnar_base.specs.TupleLaws.{pair_two}
use Rattle.columnar_primitive.specs.DurationLaws.{durations_fits, durations_level}
use Rattle.columnar_core.specs.Store.{slices_in}
use Rattle.columnar_primitive.proofs.durations.DurationsStored.rows_in.Goals as goal

pub rows_in-requires-clause-representable : goal.rows_in-requires-clause-representable
rows_in-requires-clause-representable g c = representable_left (pair_two g.SC.Column.format g.NC.Column.format) c.requires.representable

pub rows_in-requires-clause-fits : goal.rows_in-requires-clause-fits
rows_in-requires-clause-fits g c = (durations_fits g.SC.Column.format g.NC.Column.format c.args.offset (slices_in c.args.store.now) c.requires.fits).0

pub returns : goal.returns
returns g c = c.rows_in.ensures ∙ sym (durations_level g.SC.Column.format g.NC.Column.format c.args.offset (slices_in c.args.store.now) c.requires.fits)

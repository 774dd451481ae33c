use Rattle.columnar_base.specs.TwoPartsLaws.{representable_left, representable_right}
use Rattle.columnar_base.specs.TupleLaws.{pair_two}
use Rattle.columnar_primitive.specs.DurationLaws.{durations_fits}
use Rattle.columnar_core.specs.Store.{slices_in}
use Rattle.columnar_primitive.proofs.durations.DurationsContainerBytes.load.Goals as goal

pub load_two-requires-clause-left : goal.load_two-requires-clause-left
load_two-requires-clause-left g c = representable_left (pair_two g.SC.Column.format g.NC.Column.format) c.requires.representable

pub load_two-requires-clause-right : goal.load_two-requires-clause-right
load_two-requires-clause-right g c = representable_right (pair_two g.SC.Column.format g.NC.Column.format) c.requires.representable

pub load_two-requires-clause-left_fits : goal.load_two-requires-clause-left_fits
load_two-requires-clause-left_fits g c = (durations_fits g.SC.Column.format g.NC.Column.format c.args.offset (slices_in c.args.store.now) c.requires.fits).0

pub load_two-requires-clause-right_fits : goal.load_two-requires-clause-right_fits
load_two-requires-clause-right_fits g c = (durations_fits g.SC.Column.format g.NC.Column.format c.args.offset (slices_in c.args.store.now) c.requires.fits).1

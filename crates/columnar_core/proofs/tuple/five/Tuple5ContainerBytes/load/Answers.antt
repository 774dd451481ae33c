-- Made by .ci/widths.py: change .ci/widths/answers.template, and not this file.
use Rattle.std.proofs.Common.{[], ◌∷◌}
use Rattle.columnar_base.specs.LongTupleLaws.{tuple_fits}
use Rattle.columnar_core.specs.Store.{slices_in}
use Rattle.columnar_core.proofs.tuple.five.Tuple5ContainerBytes.load.Goals as goal

pub load-requires-clause-fits : goal.load-requires-clause-fits
load-requires-clause-fits g c = tuple_fits g.A.Column.format g.B.Column.format (g.C.Column.format ∷ g.D.Column.format ∷ g.E.Column.format ∷ []) c.args.offset (slices_in c.args.store.now) c.requires.fits

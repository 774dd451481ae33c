use Rattle.columnar_base.specs.SoloLaws.{solo_fits}
use Rattle.columnar_core.specs.Store.{slices_in}
use Rattle.columnar_core.proofs.tuple.one.Tuple1ContainerBytes.load.Goals as goal

pub load-requires-clause-fits : goal.load-requires-clause-fits
load-requires-clause-fits g c = solo_fits g.A.Column.format c.args.offset (slices_in c.args.store.now) c.requires.fits

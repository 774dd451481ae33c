use Rattle.columnar_bytes.specs.FramedContentLaws.{byte_fits}
use Rattle.columnar_core.specs.Store.{slices_in}
use Rattle.columnar_bytes.proofs.stash.framed.FramedStored.rows_in.Goals as goal

pub rows_in-requires-clause-fits : goal.rows_in-requires-clause-fits
rows_in-requires-clause-fits g c = byte_fits g.C.Column.format c.args.offset (slices_in c.args.store.now) c.requires.fits

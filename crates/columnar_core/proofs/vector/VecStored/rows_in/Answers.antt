use Rattle.columnar_core.specs.StoreLaws.{length_at}
use Rattle.columnar_core.proofs.vector.VecStored.rows_in.Goals as goal

pub returns : goal.returns
returns g c = rw c.count_in.ensures (length_at g.T.Element.size g.T.Element.row_of c.args.store.now c.args.offset c.get.result.now c.requires.fits.room c.get.ensures)

use Rattle.std.proofs.Common.{arith}
use Rattle.columnar_base.specs.ElementLaws.{within_bytes, row_read}
use Rattle.columnar_core.specs.Store.{slices_in}
use Rattle.columnar_core.specs.StoreLaws.{first_at}
use Rattle.columnar_primitive.proofs.flat.VecFlat.row_in.Goals as goal

pub element_in-requires : goal.element_in-requires
element_in-requires g c =
    let e = first_at (slices_in c.args.store.now) c.args.offset c.get.result.now (omega (arith, c.requires.fits.room)) c.get.ensures in
    within_bytes g.T.Element.size g.T.Element.row_of c.get.result.now c.args.index (rw e at c.requires.in_range)

pub returns-clause-row : goal.returns-clause-row
returns-clause-row g c =
    let e = first_at (slices_in c.args.store.now) c.args.offset c.get.result.now (omega (arith, c.requires.fits.room)) c.get.ensures in
    rw e (row_read g.met.T.Element.element c.get.result.now c.args.index c.element_in.result (rw e at c.requires.in_range) c.element_in.ensures)

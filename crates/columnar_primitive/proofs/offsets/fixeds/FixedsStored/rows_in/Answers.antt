use Rattle.std.proofs.Common.{◌∙◌, arith}
use Rattle.columnar_core.specs.StoreLaws.{first_at}
use Rattle.columnar_core.specs.Store.{slices_in}
use Rattle.columnar_primitive.specs.FixedLaws.{length-fixed}
use Rattle.columnar_primitive.proofs.offsets.fixeds.FixedsStored.rows_in.Goals as goal

pub returns : goal.returns
returns g c =
    let e = first_at (slices_in c.args.store.now) c.args.offset c.get.result.now (omega (arith, c.requires.fits.room)) c.get.ensures in
    rw e (c.word_in_bytes.ensures ∙ length-fixed g.row.K c.get.result.now)

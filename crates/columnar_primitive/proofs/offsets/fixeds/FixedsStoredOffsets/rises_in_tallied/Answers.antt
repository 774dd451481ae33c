use Rattle.std.proofs.Common.{arith}
use Rattle.columnar_core.specs.StoreLaws.{first_at}
use Rattle.columnar_core.specs.Store.{slices_in}
use Rattle.columnar_primitive.specs.FixedLaws.{fixed_end}
use Rattle.columnar_primitive.proofs.offsets.fixeds.FixedsStoredOffsets.rises_in_tallied.Goals as goal

pub returns-clause-value : goal.returns-clause-value
returns-clause-value g c =
    let e = first_at (slices_in c.args.store.now) c.args.offset c.get.result.now (omega (arith, c.requires.fits.room)) c.get.ensures in
    rw e (fixed_end g.row.K c.get.result.now c.args.«end» c.word_in_bytes.result c.word_in_bytes.ensures)

use Rattle.std.proofs.Common.{arith}
use Rattle.columnar_base.specs.Format.{slice}
use Rattle.columnar_core.specs.BoundLaws.{words_few}
use Rattle.columnar_core.specs.Store.{slices_in}
use Rattle.columnar_core.specs.StoreLaws.{first_at}
use Rattle.columnar_core.proofs.words.VecU64StoredOffsets.rises_in_tallied.Goals as goal

pub returns-clause-turns : goal.returns-clause-turns
returns-clause-turns g c =
    let f = first_at (slices_in c.args.store.now) c.args.offset c.get.result.now (omega (arith, c.requires.fits.room)) c.get.ensures in
    let t = rw c.from_le_bytes-view.ensures at c.rises_by_reading.ensures.turns in
    let h = words_few (slice c.get.result.now) in
    rw f (omega (arith, t, h))

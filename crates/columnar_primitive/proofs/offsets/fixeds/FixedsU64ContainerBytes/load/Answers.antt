use Rattle.std.proofs.Common.{ap, arith}
use Rattle.columnar_core.specs.StoreLaws.{first_at}
use Rattle.columnar_core.specs.Store.{slices_in}
use Rattle.columnar_core.specs.Format.{slice}
use Rattle.columnar_primitive.specs.FixedLaws.{fixed_parts}
use Rattle.columnar_primitive.specs.HeldLaws.{count-back}
use Rattle.columnar_primitive.proofs.offsets.fixeds.FixedsU64ContainerBytes.load.Goals as goal

pub returns-clause-content : goal.returns-clause-content
returns-clause-content g c =
    let e = first_at (slices_in c.args.store.now) c.args.offset c.get-bytes.result.now (omega (arith, c.requires.fits.room)) c.get-bytes.ensures in
    let s = fixed_parts g.row.K (rw e at c.requires.fits.sound) in
    rw e (ap slice (count-back c.get-bytes.result.now c.word_in_bytes.result s.size (let h = c.holds_bytes.ensures in rw c.of_bytes.ensures.bytes at h) c.word_in_bytes.ensures))

use Rattle.std.proofs.Common.{arith}
use Rattle.columnar_core.specs.Store.{slices_in}
use Rattle.columnar_core.specs.Bytes.{le_bytes}
use Rattle.columnar_core.specs.Format.{slice}
use Rattle.columnar_primitive.specs.StrideLaws.{strides_loaded}
use Rattle.columnar_primitive.proofs.offsets.strides.StridesVecU64ArrayU642ContainerBytes.load.Goals as goal

pub returns-clause-content : goal.returns-clause-content
returns-clause-content c = strides_loaded (slices_in c.args.store.now) c.args.offset c.get-bytes.result.now c.word_in_bytes.result c.word_in_bytes-2.result (slice (le_bytes c.in_ok-bounds.bounds.items)) (omega (arith, c.requires.fits.room)) c.get-bytes.ensures c.requires.fits.sound (let h = c.holds_bytes.ensures in rw c.of_bytes.ensures.bytes at h) c.word_in_bytes.ensures c.word_in_bytes-2.ensures c.in_ok-bounds.ensures.content

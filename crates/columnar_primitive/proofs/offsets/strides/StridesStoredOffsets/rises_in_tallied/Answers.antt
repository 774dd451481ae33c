use Rattle.std.proofs.Common.{◌≡◌, ◌*◌, sym, arith}
use Rattle.std.proofs.Common.{subst}
use Rattle.columnar_core.specs.Format.{Content, slice}
use Rattle.columnar_core.specs.WordViews.{bytes_of}
use Rattle.columnar_primitive.specs.Stride.{strides_rows, bounds_rows}
use Rattle.columnar_core.specs.Bounds.{rises, numbers}
use Rattle.columnar_core.specs.Store.{slices_in}
use Rattle.columnar_primitive.specs.StrideLaws.{strides_at, rise_at}
use Rattle.columnar_primitive.proofs.offsets.strides.StridesStoredOffsets.rises_in_tallied.Goals as goal

pub returns-clause-value : goal.returns-clause-value
returns-clause-value g c =
    let e = (strides_at (slices_in c.args.store.now) c.args.offset c.get-head.result.now c.get.result.now (omega (arith, c.requires.fits.room)) c.get-head.ensures c.get.ensures) in
    let q = subst (λ (y : Content). c.rise.result ≡ rises (c.word_in_bytes-stride.result * c.word_in_bytes.result) (numbers (bounds_rows (slice (bytes_of y)))) c.args.«end») c.from_le_bytes.ensures c.rise.ensures.value in
    subst (λ (x : Content). c.rise.result ≡ rises 0 (numbers (strides_rows x)) c.args.«end») (sym e) (rise_at c.get-head.result.now c.get.result.now c.args.«end» c.word_in_bytes-stride.result c.word_in_bytes.result c.rise.result q c.word_in_bytes-stride.ensures c.word_in_bytes.ensures)

use Rattle.std.proofs.Common.{◌≡◌, ◌+◌, length, sym, arith}
use Rattle.std.proofs.Common.{◌/◌, subst}
use Rattle.columnar_core.specs.Store.{slices_in}
use Rattle.columnar_core.specs.Format.{Content}
use Rattle.columnar_primitive.specs.Stride.{strides_rows}
use Rattle.columnar_primitive.specs.StrideLaws.{strides_at, strides_parts, length-stored}
use Rattle.columnar_primitive.proofs.offsets.strides.StridesStored.rows_in.Goals as goal

pub overflow_add-result : goal.overflow_add-result
overflow_add-result g c =
    let e = (strides_at (slices_in c.args.store.now) c.args.offset c.get.result.now c.get-2.result.now (omega (arith, c.requires.fits.room)) c.get.ensures c.get-2.ensures) in
    let p = strides_parts (rw e at c.requires.fits.sound) in
    omega (arith, p.few, c.word_in_bytes.ensures)

pub returns : goal.returns
returns g c =
    let e = (strides_at (slices_in c.args.store.now) c.args.offset c.get.result.now c.get-2.result.now (omega (arith, c.requires.fits.room)) c.get.ensures c.get-2.ensures) in
    subst (λ (x : Content). c.word_in_bytes.result + length c.get-2.result.now / 8 ≡ length (strides_rows x)) (sym e) (length-stored c.get.result.now c.get-2.result.now c.word_in_bytes.result c.word_in_bytes.ensures)

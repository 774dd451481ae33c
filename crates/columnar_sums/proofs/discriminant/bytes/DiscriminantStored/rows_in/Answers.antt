use Rattle.std.proofs.Common.{drop, ap, length, sym, ◌∙◌}
use Rattle.columnar_core.specs.Format.{Content}
use Rattle.columnar_core.specs.Store.{slices_in}
use Rattle.columnar_core.specs.WordViews.{bytes_of}
use Rattle.columnar_sums.specs.DiscriminantLaws.{length-variant_rows}
use Rattle.columnar_sums.specs.Discriminants.{variants_of, discriminant_format}
use Rattle.columnar_sums.specs.FormLaws.{forms_at}
use Rattle.columnar_sums.proofs.discriminant.bytes.DiscriminantStored.rows_in.Goals as goal

pub returns : goal.returns
returns g c =
    let ss = slices_in c.args.store.now in
    let e = forms_at ss c.args.offset c.get-2.result.now c.get.result.now c.requires.fits.room c.get-2.ensures c.get.ensures in
    rw (ap bytes_of c.from_le_bytes-offsets.ensures) at c.count_rows.ensures
    ∙ (ap (λ (x : Content). length (variants_of x)) (sym e) ∙ sym (length-variant_rows (variants_of (discriminant_format.build (drop c.args.offset ss)))))

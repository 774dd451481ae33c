use Rattle.std.proofs.Common.{◌≡◌, ◌∙◌, ◌+◌, ap, arith}
use Rattle.columnar_core.specs.Store.{slices_in}
use Rattle.columnar_variants.specs.Duals.{dual_bank}
use Rattle.columnar_variants.specs.VariantByteLaws.{forms_fit, variants_rows_at}
use Rattle.columnar_variants.specs.DualLaws.{firsts_representable, seconds_representable}
use Rattle.columnar_variants.proofs.dual.bytes.rows_in_dual.Goals as goal

pub slice_count-requires : goal.slice_count-requires
slice_count-requires g c = firsts_representable g.SC.Column.format g.TC.Column.format c.requires.representable

pub slice_count-requires-2 : goal.slice_count-requires-2
slice_count-requires-2 g c = seconds_representable g.SC.Column.format g.TC.Column.format c.requires.representable

pub rows_in-requires-clause-fits : goal.rows_in-requires-clause-fits
rows_in-requires-clause-fits g c =
    let m : c.slice_count.result + c.slice_count-2.result ≡ g.SC.Column.format.count + g.TC.Column.format.count = omega (arith, c.slice_count.ensures, c.slice_count-2.ensures) in
    forms_fit (dual_bank g.SC.Column.format g.TC.Column.format) c.args.offset (c.args.offset + (c.slice_count.result + c.slice_count-2.result)) (slices_in c.args.store.now) (ap (λ k. c.args.offset + k) m) c.requires.fits

pub returns : goal.returns
returns g c =
    let m : c.slice_count.result + c.slice_count-2.result ≡ g.SC.Column.format.count + g.TC.Column.format.count = omega (arith, c.slice_count.ensures, c.slice_count-2.ensures) in
    c.rows_in.ensures ∙ variants_rows_at (dual_bank g.SC.Column.format g.TC.Column.format) (slices_in c.args.store.now) c.args.offset (c.args.offset + (c.slice_count.result + c.slice_count-2.result)) (ap (λ k. c.args.offset + k) m)

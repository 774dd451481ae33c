use Rattle.std.proofs.Common.{◌≡◌, ◌+◌, refl, ap, arith}
use Rattle.columnar_core.specs.Store.{slices_in}
use Rattle.columnar_variants.specs.Duals.{dual_bank}
use Rattle.columnar_variants.specs.DualLaws.{firsts_fit, seconds_fit, firsts_representable, seconds_representable}
use Rattle.columnar_variants.specs.VariantByteLaws.{forms_fit, variants_content, beside_content}
use Rattle.columnar_variants.proofs.dual.bytes.load_dual.Goals as goal

pub load_two-requires-clause-left : goal.load_two-requires-clause-left
load_two-requires-clause-left g c = firsts_representable g.SC.Column.format g.TC.Column.format c.requires.representable

pub load_two-requires-clause-right : goal.load_two-requires-clause-right
load_two-requires-clause-right g c = seconds_representable g.SC.Column.format g.TC.Column.format c.requires.representable

pub load_two-requires-clause-left_fits : goal.load_two-requires-clause-left_fits
load_two-requires-clause-left_fits g c = firsts_fit g.SC.Column.format g.TC.Column.format c.args.offset (slices_in c.args.store.now) c.requires.fits

pub load_two-requires-clause-right_fits : goal.load_two-requires-clause-right_fits
load_two-requires-clause-right_fits g c = seconds_fit g.SC.Column.format g.TC.Column.format c.args.offset (slices_in c.args.store.now) c.requires.fits

pub slice_count-requires : goal.slice_count-requires
slice_count-requires g c = firsts_representable g.SC.Column.format g.TC.Column.format c.requires.representable

pub slice_count-requires-2 : goal.slice_count-requires-2
slice_count-requires-2 g c = seconds_representable g.SC.Column.format g.TC.Column.format c.requires.representable

pub load-requires-clause-fits : goal.load-requires-clause-fits
load-requires-clause-fits g c =
    let m : c.slice_count.result + c.slice_count-2.result ≡ g.SC.Column.format.count + g.TC.Column.format.count = omega (arith, c.slice_count.ensures, c.slice_count-2.ensures) in
    forms_fit (dual_bank g.SC.Column.format g.TC.Column.format) c.args.offset (c.args.offset + (c.slice_count.result + c.slice_count-2.result)) (slices_in c.args.store.now) (ap (λ k. c.args.offset + k) m) c.requires.fits

pub returns-clause-content : goal.returns-clause-content
returns-clause-content g c =
    let m : c.slice_count.result + c.slice_count-2.result ≡ g.SC.Column.format.count + g.TC.Column.format.count = omega (arith, c.slice_count.ensures, c.slice_count-2.ensures) in
    let ss = slices_in c.args.store.now in
    let o = c.args.offset in
    variants_content (dual_bank g.SC.Column.format g.TC.Column.format) ss o (o + (c.slice_count.result + c.slice_count-2.result)) (beside_content g.SC.Column.format g.TC.Column.format ss o (o + g.SC.Column.format.count) c.in_ok-firsts.ensures.left c.in_ok-firsts.ensures.right refl) c.in_ok-indexes.ensures.content (ap (λ k. o + k) m)

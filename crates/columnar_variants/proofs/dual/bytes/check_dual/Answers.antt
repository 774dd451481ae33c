use Rattle.columnar_base.specs.ChangeLaws.{passed_on}
use Rattle.columnar_core.specs.Faults.{fault_of}
use Rattle.columnar_core.specs.Format.{both}
use Rattle.columnar_sums.specs.Discriminants.{forms_content}
use Rattle.columnar_variants.specs.Duals.{dual_bank}
use Rattle.columnar_variants.specs.VariantByteLaws.{variants_sides, beside_fault}
use Rattle.columnar_variants.specs.DualLaws.{firsts_representable, seconds_representable}
use Rattle.columnar_variants.proofs.dual.bytes.check_dual.Goals as goal

pub check_two-requires-clause-left : goal.check_two-requires-clause-left
check_two-requires-clause-left g c = firsts_representable g.SC.Column.format g.TC.Column.format c.requires.representable

pub check_two-requires-clause-right : goal.check_two-requires-clause-right
check_two-requires-clause-right g c = seconds_representable g.SC.Column.format g.TC.Column.format c.requires.representable

pub slice_count-requires : goal.slice_count-requires
slice_count-requires g c = firsts_representable g.SC.Column.format g.TC.Column.format c.requires.representable

pub slice_count-requires-2 : goal.slice_count-requires-2
slice_count-requires-2 g c = seconds_representable g.SC.Column.format g.TC.Column.format c.requires.representable

pub returns-in_err-check_two-clause-exact : goal.returns-in_err-check_two-clause-exact
returns-in_err-check_two-clause-exact g c =
    let a = g.SC.Column.format in
    let b = g.TC.Column.format in
    let x = g.SC.Column.content c.args.firsts.now in
    let y = g.TC.Column.content c.args.seconds.now in
    let z = fault_of c.in_err-check_two.field-0.0 in
    rw (passed_on c.from_residual.result c.from_residual.ensures.1) (variants_sides (dual_bank a b) (both x y) (forms_content g.CVar.Variants.bytes g.COff.Words.bytes c.args.indexes.now) c.args.from z (beside_fault a b x y c.args.from z c.in_err-check_two.ensures.exact))

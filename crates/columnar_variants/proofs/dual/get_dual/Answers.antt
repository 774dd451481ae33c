use Rattle.std.proofs.Common.{arith, ◌≡◌, ◌<◌}
use Rattle.columnar_core.specs.Format.{both}
use Rattle.columnar_sums.specs.Discriminants.{forms_content}
use Rattle.columnar_variants.specs.Duals.{dual_bank}
use Rattle.columnar_variants.specs.DualLaws.{dual_law}
use Rattle.columnar_variants.specs.VariantLaws.{variants_parts, variants_in_range, variants_within, variants_place, variants_row, beside_parts}
use Rattle.columnar_variants.proofs.dual.get_dual.Goals as goal

pub get-variant-requires-clause-sound : goal.get-variant-requires-clause-sound
get-variant-requires-clause-sound g c = (variants_parts (dual_bank g.SC.Column.format g.TC.Column.format) c.requires.sound).forms

pub get-variant-requires-clause-in_range : goal.get-variant-requires-clause-in_range
get-variant-requires-clause-in_range g c = variants_in_range (dual_bank g.SC.Column.format g.TC.Column.format) (both (g.SC.Column.content c.args.firsts.now) (g.TC.Column.content c.args.seconds.now)) (forms_content g.CVar.Variants.bytes g.COff.Words.bytes c.args.indexes.now) c.args.index c.requires.in_range

pub get-requires-clause-sound : goal.get-requires-clause-sound
get-requires-clause-sound g c = (beside_parts g.SC.Column.format g.TC.Column.format (variants_parts (dual_bank g.SC.Column.format g.TC.Column.format) c.requires.sound).parts).0

pub get-requires-clause-in_range : goal.get-requires-clause-in_range
get-requires-clause-in_range g c = variants_place (dual_bank g.SC.Column.format g.TC.Column.format) (dual_law g.SC.Column.format g.TC.Column.format) c.requires.sound c.args.index c.get-variant.result.0 c.get-variant.result.1 0 c.if-variant-eq0.true c.get-variant.ensures.variant c.get-variant.ensures.earlier

pub get-requires-else-variant-eq0-clause-sound : goal.get-requires-else-variant-eq0-clause-sound
get-requires-else-variant-eq0-clause-sound g c = (beside_parts g.SC.Column.format g.TC.Column.format (variants_parts (dual_bank g.SC.Column.format g.TC.Column.format) c.requires.sound).parts).1

pub get-requires-else-variant-eq0-clause-in_range :
    goal.get-requires-else-variant-eq0-clause-in_range
get-requires-else-variant-eq0-clause-in_range g c =
    let l : c.get-variant.result.0 < 2 = (variants_within (dual_bank g.SC.Column.format g.TC.Column.format) (dual_law g.SC.Column.format g.TC.Column.format) c.requires.sound c.args.index c.get-variant.result.0 c.get-variant.result.1 c.get-variant.ensures.variant c.get-variant.ensures.earlier).0 in
    let one : c.get-variant.result.0 ≡ 1 = omega (arith, l, c.if-variant-eq0.false) in
    variants_place (dual_bank g.SC.Column.format g.TC.Column.format) (dual_law g.SC.Column.format g.TC.Column.format) c.requires.sound c.args.index c.get-variant.result.0 c.get-variant.result.1 1 one c.get-variant.ensures.variant c.get-variant.ensures.earlier

pub returns-then-variant-eq0-clause-first : goal.returns-then-variant-eq0-clause-first
returns-then-variant-eq0-clause-first g c = variants_row (dual_bank g.SC.Column.format g.TC.Column.format) (both (g.SC.Column.content c.args.firsts.now) (g.TC.Column.content c.args.seconds.now)) (forms_content g.CVar.Variants.bytes g.COff.Words.bytes c.args.indexes.now) c.args.index c.get-variant.result.0 c.get-variant.result.1 0 (g.SC.Ref.Item.meaning c.get.result) c.if-variant-eq0.true c.get-variant.ensures.variant c.get-variant.ensures.earlier c.get.ensures.row

pub returns-else-variant-eq0-clause-second : goal.returns-else-variant-eq0-clause-second
returns-else-variant-eq0-clause-second g c =
    let l : c.get-variant.result.0 < 2 = (variants_within (dual_bank g.SC.Column.format g.TC.Column.format) (dual_law g.SC.Column.format g.TC.Column.format) c.requires.sound c.args.index c.get-variant.result.0 c.get-variant.result.1 c.get-variant.ensures.variant c.get-variant.ensures.earlier).0 in
    let one : c.get-variant.result.0 ≡ 1 = omega (arith, l, c.if-variant-eq0.false) in
    variants_row (dual_bank g.SC.Column.format g.TC.Column.format) (both (g.SC.Column.content c.args.firsts.now) (g.TC.Column.content c.args.seconds.now)) (forms_content g.CVar.Variants.bytes g.COff.Words.bytes c.args.indexes.now) c.args.index c.get-variant.result.0 c.get-variant.result.1 1 (g.TC.Ref.Item.meaning c.get-else-variant-eq0.result) one c.get-variant.ensures.variant c.get-variant.ensures.earlier c.get-else-variant-eq0.ensures.row

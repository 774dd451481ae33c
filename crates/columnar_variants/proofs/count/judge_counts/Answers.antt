use Rattle.std.proofs.Common.{◌≡◌, ◌∙◌, sym, arith, length}
use Rattle.columnar_sums.specs.Discriminants.{forms_content, variants_of, times}
use Rattle.columnar_variants.specs.VariantByteLaws.{own_parts, own_fine}
use Rattle.columnar_variants.specs.VariantCountLaws.{told_same}
use Rattle.columnar_variants.proofs.count.judge_counts.Goals as goal

pub returns-then-are_level-clause-exact : goal.returns-then-are_level-clause-exact
returns-then-are_level-clause-exact g c =
    let vs = variants_of (forms_content g.CVar.Variants.bytes g.COff.Words.bytes c.args.indexes.now) in
    own_fine c.args.from _ _ (sym c.in-Some.ensures.below) (sym (told_same c.args.lengths.now _ (λ v. times v vs) (λ i l. c.in-Some.ensures.counted i (omega (arith, l, c.requires.few)))) ∙ (sym c.are_level.ensures ∙ c.if-are_level.true))

pub returns-else-are_level-clause-exact : goal.returns-else-are_level-clause-exact
returns-else-are_level-clause-exact g c =
    let vs = variants_of (forms_content g.CVar.Variants.bytes g.COff.Words.bytes c.args.indexes.now) in
    own_parts c.args.from _ _ (sym c.in-Some.ensures.below) (sym (told_same c.args.lengths.now _ (λ v. times v vs) (λ i l. c.in-Some.ensures.counted i (omega (arith, l, c.requires.few)))) ∙ (sym c.are_level.ensures ∙ c.if-are_level.false))

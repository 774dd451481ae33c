use Rattle.std.proofs.Common.{arith, ◌≡◌, ◌∙◌, sym, length}
use Rattle.columnar_sums.specs.Discriminants.{forms_content, variants_of}
use Rattle.columnar_sums.specs.DiscriminantLaws.{length-variant_rows}
use Rattle.columnar_variants.specs.VariantCountLaws.{front_sole, front_other}
use Rattle.columnar_variants.specs.VariantListLaws.{times_more, times_of_all}
use Rattle.columnar_variants.proofs.case.rows_before.Goals as goal

pub loop-index-preserved : goal.loop-index-preserved
loop-index-preserved g c = times_more c.args.variant c.get-kind.result.0 c.loop-index.index (variants_of (forms_content g.CVar.Variants.bytes g.COff.Words.bytes c.args.indexes.now)) c.get-kind.ensures.variant c.if-kind-variant-2.false ∙ c.loop-index.invariant

pub returns : goal.returns
returns g c =
    let m = length-variant_rows (variants_of (forms_content g.CVar.Variants.bytes g.COff.Words.bytes c.args.indexes.now)) in
    let e : c.loop-index.index ≡ length (variants_of (forms_content g.CVar.Variants.bytes g.COff.Words.bytes c.args.indexes.now)) = omega (arith, m, c.len-index-end.ensures, c.loop-index-test.false, c.loop-index.auto.index-end, c.requires.in_range) in
    c.requires.all ∙ (sym (times_of_all c.args.variant c.loop-index.index (variants_of (forms_content g.CVar.Variants.bytes g.COff.Words.bytes c.args.indexes.now)) e) ∙ c.loop-index.invariant)

pub returns-then-kind-variant : goal.returns-then-kind-variant
returns-then-kind-variant g c = sym (front_sole c.args.variant c.args.n (variants_of (forms_content g.CVar.Variants.bytes g.COff.Words.bytes c.args.indexes.now)) c.requires.in_range (rw c.if-kind-variant.true at c.in-Some.ensures.next))

pub returns-else-kind-variant : goal.returns-else-kind-variant
returns-else-kind-variant g c = sym (front_other c.in-Some.kind c.args.variant c.args.n (variants_of (forms_content g.CVar.Variants.bytes g.COff.Words.bytes c.args.indexes.now)) c.requires.in_range c.in-Some.ensures.next (λ e. c.if-kind-variant.false (sym e)))

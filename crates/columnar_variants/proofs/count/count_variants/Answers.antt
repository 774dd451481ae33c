use Rattle.std.proofs.Common.{◌≡◌, ◌∙◌, sym, arith, length}
use Rattle.columnar_sums.specs.Discriminants.{forms_content, variants_of}
use Rattle.columnar_sums.specs.DiscriminantLaws.{length-variant_rows}
use Rattle.columnar_variants.specs.VariantCountLaws.{below_sole, counted_sole, counted_nothing, none_sole}
use Rattle.columnar_variants.proofs.count.count_variants.Goals as goal

pub returns-else-variant-size-clause-below : goal.returns-else-variant-size-clause-below
returns-else-variant-size-clause-below g c = sym (below_sole c.args.size c.in-Some.variant (variants_of (forms_content g.CVar.Variants.bytes g.COff.Words.bytes c.args.indexes.now)) (omega (arith, c.if-variant-size.false)) c.in-Some.ensures.next)

pub returns-else-variant-size-clause-counted : goal.returns-else-variant-size-clause-counted
returns-else-variant-size-clause-counted g c =
    let vs = variants_of (forms_content g.CVar.Variants.bytes g.COff.Words.bytes c.args.indexes.now) in
    let n : c.len.result ≡ length vs = c.len.ensures ∙ length-variant_rows vs in
    rw (c.set_count.ensures, n) (counted_sole c.in-Some.variant vs (omega arith) c.in-Some.ensures.next)

pub returns-in_default-clause-counted : goal.returns-in_default-clause-counted
returns-in_default-clause-counted g c =
    let vs = variants_of (forms_content g.CVar.Variants.bytes g.COff.Words.bytes c.args.indexes.now) in
    counted_nothing vs (none_sole vs c.in_default.ensures.sole (sym c.is_heterogeneous.ensures.mixed ∙ c.if-is_heterogeneous.false))

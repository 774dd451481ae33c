use Rattle.std.proofs.Common.{sym, ◌∙◌}
use Rattle.columnar_sums.specs.DiscriminantLaws.{length-variant_rows}
use Rattle.columnar_sums.specs.Discriminants.{variants_of, forms_content}
use Rattle.columnar_sums.proofs.discriminant.DiscriminantLen.len.Goals as goal

pub returns : goal.returns
returns g c = rw (c.variants.ensures, c.words.ensures) at c.count_rows.ensures ∙ sym (length-variant_rows (variants_of (forms_content g.CVar.Variants.bytes g.COff.Words.bytes c.args.self.now)))

use Rattle.std.proofs.Common.{◌∙◌}
use Rattle.columnar_sums.specs.Discriminants.{forms_content}
use Rattle.columnar_variants.specs.VariantLaws.{variants_parts, variants_len}
use Rattle.columnar_variants.proofs.variants.VariantsLen.len.Goals as goal

pub len-requires : goal.len-requires
len-requires g c = (variants_parts g.B.ColumnBank.bank c.requires).forms

pub returns : goal.returns
returns g c = c.len.ensures ∙ variants_len g.B.ColumnBank.bank (g.B.ColumnBank.contents c.args.self.now.columns) (forms_content g.CVar.Variants.bytes g.COff.Words.bytes c.args.self.now.indexes)

use Rattle.std.proofs.Common.{◌∙◌}
use Rattle.columnar_core.specs.Format.{both}
use Rattle.columnar_variants.specs.Duals.{dual_bank}
use Rattle.columnar_variants.specs.VariantLaws.{variants_parts, variants_len}
use Rattle.columnar_sums.specs.Discriminants.{forms_content}
use Rattle.columnar_variants.proofs.dual.len_of_dual.Goals as goal

pub len-requires : goal.len-requires
len-requires g c = (variants_parts (dual_bank g.SC.Column.format g.TC.Column.format) c.requires).forms

pub returns : goal.returns
returns g c = c.len.ensures ∙ variants_len (dual_bank g.SC.Column.format g.TC.Column.format) (both (g.SC.Column.content c.args._firsts.now) (g.TC.Column.content c.args._seconds.now)) (forms_content g.CVar.Variants.bytes g.COff.Words.bytes c.args.indexes.now)

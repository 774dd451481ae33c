use Rattle.std.proofs.Common.{◌∙◌, sym, ap}
use Rattle.std.specs.Prelude.{Some}
use Rattle.columnar_sums.specs.Discriminants.{forms_content}
use Rattle.columnar_variants.specs.Variants.{case}
use Rattle.columnar_variants.specs.VariantLaws.{variants_parts, variants_in_range, variants_within, variants_read}
use Rattle.columnar_variants.proofs.variants.VariantsIndex.get.Goals as goal

pub get-variant-requires-clause-sound : goal.get-variant-requires-clause-sound
get-variant-requires-clause-sound g c = (variants_parts g.B.ColumnBank.bank c.requires.sound).forms

pub get-variant-requires-clause-in_range : goal.get-variant-requires-clause-in_range
get-variant-requires-clause-in_range g c = variants_in_range g.B.ColumnBank.bank (g.B.ColumnBank.contents c.args.self.now.columns) (forms_content g.CVar.Variants.bytes g.COff.Words.bytes c.args.self.now.indexes) c.args.index c.requires.in_range

pub value-requires-clause-sound : goal.value-requires-clause-sound
value-requires-clause-sound g c = (variants_parts g.B.ColumnBank.bank c.requires.sound).parts

pub value-requires-clause-known : goal.value-requires-clause-known
value-requires-clause-known g c = (variants_within g.B.ColumnBank.bank g.met.B.ColumnBank.is_bank c.requires.sound c.args.index c.get-variant.result.0 c.get-variant.result.1 c.get-variant.ensures.variant c.get-variant.ensures.earlier).0

pub value-requires-clause-in_range : goal.value-requires-clause-in_range
value-requires-clause-in_range g c = (variants_within g.B.ColumnBank.bank g.met.B.ColumnBank.is_bank c.requires.sound c.args.index c.get-variant.result.0 c.get-variant.result.1 c.get-variant.ensures.variant c.get-variant.ensures.earlier).1

pub returns-clause-row : goal.returns-clause-row
returns-clause-row g c = variants_read g.B.ColumnBank.bank (g.B.ColumnBank.contents c.args.self.now.columns) (forms_content g.CVar.Variants.bytes g.COff.Words.bytes c.args.self.now.indexes) c.args.index c.get-variant.result.0 c.get-variant.result.1 (g.B.Ref.Cases.value c.value.result) c.get-variant.ensures.variant c.get-variant.ensures.earlier c.value.ensures.value ∙ ap Some (sym (g.met.B.Ref.Cases.meant c.value.result ∙ ap (λ k. case k (g.B.Ref.Cases.value c.value.result)) c.value.ensures.variant))

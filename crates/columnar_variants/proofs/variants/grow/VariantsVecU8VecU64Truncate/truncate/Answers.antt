use Rattle.std.proofs.Common.{◌∙◌, sym}
use Rattle.columnar_sums.specs.Discriminants.{owned_forms, variants_of}
use Rattle.columnar_sums.specs.DiscriminantLaws.{length-variant_rows}
use Rattle.columnar_variants.specs.VariantLaws.{variants_parts, variants_count, counts_within}
use Rattle.columnar_variants.specs.VariantCutLaws.{variants_cut}
use Rattle.columnar_variants.specs.BankChangeLaws.{cut_as}
use Rattle.columnar_variants.proofs.variants.grow.VariantsVecU8VecU64Truncate.truncate.Goals as goal

pub fronts-fronts-requires-clause-in_range : goal.fronts-fronts-requires-clause-in_range
fronts-fronts-requires-clause-in_range g c = rw (variants_count g.B.ColumnBank.bank (g.B.ColumnBank.contents c.args.self.now.columns) (owned_forms c.args.self.now.indexes.variant.items c.args.self.now.indexes.offset.items)) at c.requires.in_range

pub cut_columns-requires-clause-sound : goal.cut_columns-requires-clause-sound
cut_columns-requires-clause-sound g c = (variants_parts g.B.ColumnBank.bank c.requires.sound).parts

pub cut_columns-requires-clause-in_range : goal.cut_columns-requires-clause-in_range
cut_columns-requires-clause-in_range g c = λ v l. rw (c.fronts-fronts.ensures.fronts v) (counts_within g.B.ColumnBank.bank g.met.B.ColumnBank.is_bank (g.B.ColumnBank.contents c.args.self.now.columns) (variants_of (owned_forms c.args.self.now.indexes.variant.items c.args.self.now.indexes.offset.items)) c.args.n (variants_parts g.B.ColumnBank.bank c.requires.sound).told v l)

pub truncate-requires-clause-sound : goal.truncate-requires-clause-sound
truncate-requires-clause-sound g c = (variants_parts g.B.ColumnBank.bank c.requires.sound).forms

pub truncate-requires-clause-in_range : goal.truncate-requires-clause-in_range
truncate-requires-clause-in_range g c = rw (variants_count g.B.ColumnBank.bank (g.B.ColumnBank.contents c.args.self.now.columns) (owned_forms c.args.self.now.indexes.variant.items c.args.self.now.indexes.offset.items) ∙ sym (length-variant_rows (variants_of (owned_forms c.args.self.now.indexes.variant.items c.args.self.now.indexes.offset.items)))) at c.requires.in_range

pub returns-clause-cut : goal.returns-clause-cut
returns-clause-cut g c = variants_cut g.B.ColumnBank.bank g.met.B.ColumnBank.is_bank c.args.n c.requires.sound (cut_as g.B.ColumnBank.bank c.fronts-fronts.ensures.fronts c.cut_columns.ensures) c.truncate.ensures.cut.sound c.truncate.ensures.variants c.truncate.ensures.cut.lengths_cut

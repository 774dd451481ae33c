use Rattle.std.proofs.Common.{sym}
use Rattle.std.specs.Prelude.{slice_index}
use Rattle.columnar_variants.specs.VariantLaws.{beside_parts}
use Rattle.columnar_variants.specs.VariantCutLaws.{join_cut}
use Rattle.columnar_variants.specs.BankChangeLaws.{cut_as, one_more}
use Rattle.columnar_variants.proofs.bank.grow.Tuple2CutBank.cut_columns.Goals as goal

pub truncate-requires-clause-sound : goal.truncate-requires-clause-sound
truncate-requires-clause-sound g c = (beside_parts g.A.Column.format g.B.ColumnBank.bank.sides c.requires.sound).0

pub cut_columns-requires-clause-sound : goal.cut_columns-requires-clause-sound
cut_columns-requires-clause-sound g c = (beside_parts g.A.Column.format g.B.ColumnBank.bank.sides c.requires.sound).1

pub returns : goal.returns
returns g c = join_cut g.A.Column.format g.B.ColumnBank.bank c.first_of.result (slice_index c.args.fronts.now) (sym c.first_of.ensures) c.truncate.ensures.cut (cut_as g.B.ColumnBank.bank (one_more (slice_index c.others_of.result.now) (slice_index c.args.fronts.now) c.others_of.ensures) c.cut_columns.ensures)

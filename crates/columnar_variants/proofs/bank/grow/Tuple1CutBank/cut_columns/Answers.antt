use Rattle.std.proofs.Common.{sym}
use Rattle.std.specs.Prelude.{slice_index}
use Rattle.columnar_variants.specs.VariantCutLaws.{leaf_cut}
use Rattle.columnar_variants.proofs.bank.grow.Tuple1CutBank.cut_columns.Goals as goal

pub returns : goal.returns
returns g c = leaf_cut g.A.Column.format c.first_of.result (slice_index c.args.fronts.now) (sym c.first_of.ensures) c.truncate.ensures.cut

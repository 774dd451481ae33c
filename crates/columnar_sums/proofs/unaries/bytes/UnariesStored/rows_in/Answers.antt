use Rattle.std.proofs.Common.{sym, ◌∙◌, drop}
use Rattle.columnar_core.specs.Store.{slices_in}
use Rattle.columnar_sums.specs.RankColumns.{ranks_format}
use Rattle.columnar_sums.specs.UnaryChangeLaws.{content_length, bits_fit}
use Rattle.columnar_sums.proofs.unaries.bytes.UnariesStored.rows_in.Goals as goal

pub trues_in-requires : goal.trues_in-requires
trues_in-requires g c = bits_fit c.args.offset (slices_in c.args.store.now) c.requires.fits

pub returns : goal.returns
returns g c = c.trues_in.ensures.value ∙ content_length (ranks_format.build (drop c.args.offset (slices_in c.args.store.now)))

use Rattle.std.proofs.Common.{◌∙◌, ap}
use Rattle.columnar_core.specs.Store.{slices_in}
use Rattle.columnar_core.specs.WordViews.{bytes_of}
use Rattle.columnar_sums.specs.RankByteLaws.{ranks_bools_at, ranks_rows_at}
use Rattle.columnar_sums.proofs.rank_select.bytes.RankSelectStored.rows_in.Goals as goal

pub count_bits-requires : goal.count_bits-requires
count_bits-requires g c = ranks_bools_at (slices_in c.args.store.now) c.args.offset _ _ c.requires.fits (ap bytes_of c.from_le_bytes-values.ensures ∙ c.get.ensures) (ap bytes_of c.from_le_bytes-tail.ensures ∙ c.get-2.ensures)

pub returns : goal.returns
returns g c = c.count_bits.ensures ∙ ranks_rows_at (slices_in c.args.store.now) c.args.offset _ _ c.requires.fits (ap bytes_of c.from_le_bytes-values.ensures ∙ c.get.ensures) (ap bytes_of c.from_le_bytes-tail.ensures ∙ c.get-2.ensures)

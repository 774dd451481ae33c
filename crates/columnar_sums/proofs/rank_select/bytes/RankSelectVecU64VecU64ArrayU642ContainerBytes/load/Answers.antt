use Rattle.columnar_core.specs.Store.{slices_in}
use Rattle.columnar_core.specs.TwoPartsLaws.{two_fits_left, two_fits_right}
use Rattle.columnar_sums.specs.RankByteLaws.{ranks_held_at}
use Rattle.columnar_sums.specs.RankLaws.{ranks_two}
use Rattle.columnar_sums.proofs.rank_select.bytes.RankSelectVecU64VecU64ArrayU642ContainerBytes.load.Goals as goal

pub load_two-requires-clause-left_fits : goal.load_two-requires-clause-left_fits
load_two-requires-clause-left_fits c = two_fits_left ranks_two c.args.offset (slices_in c.args.store.now) c.requires.fits

pub load_two-requires-clause-right_fits : goal.load_two-requires-clause-right_fits
load_two-requires-clause-right_fits c = two_fits_right ranks_two c.args.offset (slices_in c.args.store.now) c.requires.fits

pub returns-clause-content : goal.returns-clause-content
returns-clause-content c = ranks_held_at (slices_in c.args.store.now) c.args.offset c.in_ok-counts.counts.items _ c.in_ok-counts.ensures.left c.in_ok-counts.ensures.right

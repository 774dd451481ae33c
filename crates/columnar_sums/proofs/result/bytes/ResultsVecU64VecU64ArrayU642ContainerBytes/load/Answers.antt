use Rattle.std.proofs.Common.{◌+◌, refl}
use Rattle.columnar_core.specs.Store.{slices_in}
use Rattle.columnar_sums.specs.ResultLaws.{oks_representable, errs_representable, oks_fit, errs_fit, results_at}
use Rattle.columnar_sums.proofs.result.bytes.ResultsVecU64VecU64ArrayU642ContainerBytes.load.Goals as goal

pub load_two-requires-clause-left : goal.load_two-requires-clause-left
load_two-requires-clause-left g c = oks_representable g.SC.Column.format g.TC.Column.format c.requires.representable

pub load_two-requires-clause-right : goal.load_two-requires-clause-right
load_two-requires-clause-right g c = errs_representable g.SC.Column.format g.TC.Column.format c.requires.representable

pub load_two-requires-clause-left_fits : goal.load_two-requires-clause-left_fits
load_two-requires-clause-left_fits g c = oks_fit g.SC.Column.format g.TC.Column.format c.args.offset (slices_in c.args.store.now) c.requires.fits

pub load_two-requires-clause-right_fits : goal.load_two-requires-clause-right_fits
load_two-requires-clause-right_fits g c = errs_fit g.SC.Column.format g.TC.Column.format c.args.offset (slices_in c.args.store.now) c.requires.fits

pub returns-clause-content : goal.returns-clause-content
returns-clause-content g c = results_at g.SC.Column.format g.TC.Column.format c.args.offset (c.args.offset + 3) (c.args.offset + 3 + g.SC.Column.format.count) (slices_in c.args.store.now) c.in_ok-indexes.ensures.content c.in_ok-oks.ensures.left c.in_ok-oks.ensures.right refl refl

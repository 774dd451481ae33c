use Rattle.std.proofs.Common.{arith, true, false}
use Rattle.columnar_base.specs.Row.{truth}
use Rattle.columnar_sums.specs.ResultLaws.{results_parts, results_within, results_clear, results_clear_of, results_ok_value, results_err_value}
use Rattle.columnar_sums.specs.RankColumns.{ranks_content}
use Rattle.columnar_cells.specs.SumLaws.{ok_wrote, err_wrote, ok_fits_row, err_fits_row, map_get}
use Rattle.columnar_cells.proofs.sums.ResultsSetRowResult.set_row.Goals as goal

pub rank-at-requires-clause-in_range : goal.rank-at-requires-clause-in_range
rank-at-requires-clause-in_range g c = results_within g.SC.Column.format g.TC.Column.format (ranks_content g.CC.Words.bytes g.VC.Words.bytes g.WC.Words.bytes c.args.self.now.indexes) (g.SC.Column.content c.args.self.now.oks) (g.TC.Column.content c.args.self.now.errs) c.args.index (let l = c.requires.in_range in omega arith)

pub set_row-requires-clause-sound : goal.set_row-requires-clause-sound
set_row-requires-clause-sound g c = (results_parts g.SC.Column.format g.TC.Column.format c.requires.sound).oks

pub set_row-requires-clause-in_range : goal.set_row-requires-clause-in_range
set_row-requires-clause-in_range g c =
    let m = ok_fits_row g.SC.SetRow.fits g.TC.SetRow.fits g.SC.Column.format g.TC.Column.format c.args.index _ c.requires.sound c.requires.in_range (rw c.in-Ok.is at c.requires.fits) in
    rw c.rank-at.ensures.value (results_ok_value g.SC.Column.format g.TC.Column.format c.args.index c.requires.sound (map_get truth _ c.args.index true m.0))

pub set_row-requires-clause-fits : goal.set_row-requires-clause-fits
set_row-requires-clause-fits g c =
    let m = ok_fits_row g.SC.SetRow.fits g.TC.SetRow.fits g.SC.Column.format g.TC.Column.format c.args.index _ c.requires.sound c.requires.in_range (rw c.in-Ok.is at c.requires.fits) in
    rw c.rank-at.ensures.value m.1

pub overflow_sub-index : goal.overflow_sub-index
overflow_sub-index g c =
    let z = results_clear g.SC.Column.format g.TC.Column.format (ranks_content g.CC.Words.bytes g.VC.Words.bytes g.WC.Words.bytes c.args.self.now.indexes) (g.SC.Column.content c.args.self.now.oks) (g.TC.Column.content c.args.self.now.errs) c.args.index (let l = c.requires.in_range in omega arith) in
    omega (arith, z, c.rank-at.ensures.value)

pub set_row-requires-in-Err-clause-sound : goal.set_row-requires-in-Err-clause-sound
set_row-requires-in-Err-clause-sound g c = (results_parts g.SC.Column.format g.TC.Column.format c.requires.sound).errs

pub set_row-requires-in-Err-clause-in_range : goal.set_row-requires-in-Err-clause-in_range
set_row-requires-in-Err-clause-in_range g c =
    let m = err_fits_row g.SC.SetRow.fits g.TC.SetRow.fits g.SC.Column.format g.TC.Column.format c.args.index _ c.requires.sound c.requires.in_range (rw c.in-Err.is at c.requires.fits) in
    rw (results_clear_of g.SC.Column.format g.TC.Column.format (ranks_content g.CC.Words.bytes g.VC.Words.bytes g.WC.Words.bytes c.args.self.now.indexes) (g.SC.Column.content c.args.self.now.oks) (g.TC.Column.content c.args.self.now.errs) c.args.index c.rank-at.result c.rank-at.ensures.value (let l = c.requires.in_range in omega arith)) (results_err_value g.SC.Column.format g.TC.Column.format c.args.index c.requires.sound (map_get truth _ c.args.index false m.0))

pub set_row-requires-in-Err-clause-fits : goal.set_row-requires-in-Err-clause-fits
set_row-requires-in-Err-clause-fits g c =
    let m = err_fits_row g.SC.SetRow.fits g.TC.SetRow.fits g.SC.Column.format g.TC.Column.format c.args.index _ c.requires.sound c.requires.in_range (rw c.in-Err.is at c.requires.fits) in
    rw (results_clear_of g.SC.Column.format g.TC.Column.format (ranks_content g.CC.Words.bytes g.VC.Words.bytes g.WC.Words.bytes c.args.self.now.indexes) (g.SC.Column.content c.args.self.now.oks) (g.TC.Column.content c.args.self.now.errs) c.args.index c.rank-at.result c.rank-at.ensures.value (let l = c.requires.in_range in omega arith)) m.1

pub returns-in-Ok : goal.returns-in-Ok
returns-in-Ok g c =
    let m = ok_fits_row g.SC.SetRow.fits g.TC.SetRow.fits g.SC.Column.format g.TC.Column.format c.args.index _ c.requires.sound c.requires.in_range (rw c.in-Ok.is at c.requires.fits) in
    rw c.in-Ok.is (ok_wrote g.SC.Column.format g.TC.Column.format c.args.index _ c.requires.sound m.0 (rw c.rank-at.ensures.value at c.set_row.ensures))

pub returns-in-Err : goal.returns-in-Err
returns-in-Err g c =
    let m = err_fits_row g.SC.SetRow.fits g.TC.SetRow.fits g.SC.Column.format g.TC.Column.format c.args.index _ c.requires.sound c.requires.in_range (rw c.in-Err.is at c.requires.fits) in
    rw c.in-Err.is (err_wrote g.SC.Column.format g.TC.Column.format c.args.index _ c.requires.sound m.0 (rw (results_clear_of g.SC.Column.format g.TC.Column.format (ranks_content g.CC.Words.bytes g.VC.Words.bytes g.WC.Words.bytes c.args.self.now.indexes) (g.SC.Column.content c.args.self.now.oks) (g.TC.Column.content c.args.self.now.errs) c.args.index c.rank-at.result c.rank-at.ensures.value (let l = c.requires.in_range in omega arith)) at c.set_row-in-Err.ensures))

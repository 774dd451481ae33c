use Rattle.std.proofs.Common.{arith, true, false}
use Rattle.columnar_base.specs.Row.{truth}
use Rattle.columnar_sums.specs.OptionLaws.{options_parts, options_within, options_value, options_absent}
use Rattle.columnar_sums.specs.RankColumns.{ranks_content}
use Rattle.columnar_cells.specs.WroteLaws.{wrote_same}
use Rattle.columnar_cells.specs.SumLaws.{options_wrote, some_fits, none_fits, map_get}
use Rattle.columnar_cells.proofs.sums.OptionsSetRowOption.set_row.Goals as goal

pub rank-at-requires-clause-in_range : goal.rank-at-requires-clause-in_range
rank-at-requires-clause-in_range g c = options_within g.TC.Column.format (ranks_content g.CC.Words.bytes g.VC.Words.bytes g.WC.Words.bytes c.args.self.now.indexes) (g.TC.Column.content c.args.self.now.somes) c.args.index (let l = c.requires.in_range in omega arith)

pub set_row-requires-clause-sound : goal.set_row-requires-clause-sound
set_row-requires-clause-sound g c = (options_parts g.TC.Column.format c.requires.sound).values

pub set_row-requires-clause-in_range : goal.set_row-requires-clause-in_range
set_row-requires-clause-in_range g c =
    let m = some_fits g.TC.SetRow.fits g.TC.Column.format c.args.index _ c.requires.sound c.requires.in_range (rw c.in-Some.is at c.requires.fits) in
    rw c.rank-at.ensures.value (options_value g.TC.Column.format c.args.index c.requires.sound (map_get truth _ c.args.index true m.0))

pub set_row-requires-clause-fits : goal.set_row-requires-clause-fits
set_row-requires-clause-fits g c =
    let m = some_fits g.TC.SetRow.fits g.TC.Column.format c.args.index _ c.requires.sound c.requires.in_range (rw c.in-Some.is at c.requires.fits) in
    rw c.rank-at.ensures.value m.1

pub returns-in-Some : goal.returns-in-Some
returns-in-Some g c =
    let m = some_fits g.TC.SetRow.fits g.TC.Column.format c.args.index _ c.requires.sound c.requires.in_range (rw c.in-Some.is at c.requires.fits) in
    let h = map_get truth _ c.args.index true m.0 in
    rw c.in-Some.is (options_wrote g.TC.Column.format c.args.index _ c.requires.sound h (options_value g.TC.Column.format c.args.index c.requires.sound h) (rw c.rank-at.ensures.value at c.set_row.ensures))

pub returns-in-None : goal.returns-in-None
returns-in-None g c =
    let m = none_fits g.TC.SetRow.fits g.TC.Column.format c.args.index c.requires.sound c.requires.in_range (rw c.in-None.is at c.requires.fits) in
    rw c.in-None.is (wrote_same _ c.args.index _ c.requires.sound (options_absent g.TC.Column.format (ranks_content g.CC.Words.bytes g.VC.Words.bytes g.WC.Words.bytes c.args.self.now.indexes) (g.TC.Column.content c.args.self.now.somes) c.args.index (map_get truth _ c.args.index false m)))

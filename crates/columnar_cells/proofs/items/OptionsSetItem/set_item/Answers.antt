use Rattle.std.proofs.Common.{arith, true, false}
use Rattle.columnar_base.specs.Row.{truth}
use Rattle.columnar_sums.specs.OptionLaws.{options_parts, options_within, options_value}
use Rattle.columnar_sums.specs.RankColumns.{ranks_content}
use Rattle.columnar_cells.specs.SumLaws.{options_wrote, some_fits, some_row, map_get}
use Rattle.columnar_cells.proofs.items.OptionsSetItem.set_item.Goals as goal

pub rank-rank-requires-clause-in_range : goal.rank-rank-requires-clause-in_range
rank-rank-requires-clause-in_range g c = options_within g.TC.Column.format (ranks_content g.CC.Words.bytes g.VC.Words.bytes g.WC.Words.bytes c.args.self.now.indexes) (g.TC.Column.content c.args.self.now.somes) c.args.index (let l = c.requires.in_range in omega arith)

pub set_item-requires-clause-sound : goal.set_item-requires-clause-sound
set_item-requires-clause-sound g c = (options_parts g.TC.Column.format c.requires.sound).values

pub set_item-requires-clause-in_range : goal.set_item-requires-clause-in_range
set_item-requires-clause-in_range g c =
    let m = some_fits (λ s t. g.TC.SetItem.fits s c.args.at t) g.TC.Column.format c.args.index c.args.item c.requires.sound c.requires.in_range c.requires.fits in
    rw c.rank-rank.ensures.value (options_value g.TC.Column.format c.args.index c.requires.sound (map_get truth _ c.args.index true m.0))

pub set_item-requires-clause-fits : goal.set_item-requires-clause-fits
set_item-requires-clause-fits g c =
    let m = some_fits (λ s t. g.TC.SetItem.fits s c.args.at t) g.TC.Column.format c.args.index c.args.item c.requires.sound c.requires.in_range c.requires.fits in
    rw c.rank-rank.ensures.value m.1

pub returns : goal.returns
returns g c =
    let m = some_fits (λ s t. g.TC.SetItem.fits s c.args.at t) g.TC.Column.format c.args.index c.args.item c.requires.sound c.requires.in_range c.requires.fits in
    let h = map_get truth _ c.args.index true m.0 in
    rw (some_row g.TC.Column.format c.args.index c.requires.sound h) (options_wrote g.TC.Column.format c.args.index _ c.requires.sound h (options_value g.TC.Column.format c.args.index c.requires.sound h) (rw c.rank-rank.ensures.value at c.set_item.ensures))

use Rattle.columnar_lists.specs.ListLaws.{lists_parts, lists_within}
use Rattle.columnar_cells.specs.ListLaws.{list_wrote, list_item, item_inside, item_before}
use Rattle.columnar_cells.proofs.items.VecsSetItemUsize.set_item.Goals as goal

pub range_of-lower-requires-clause-sound : goal.range_of-lower-requires-clause-sound
range_of-lower-requires-clause-sound g c = (lists_parts g.BC.Column.format g.TC.Column.format c.requires.sound).bounds

pub range_of-lower-requires-clause-in_range : goal.range_of-lower-requires-clause-in_range
range_of-lower-requires-clause-in_range g c = lists_within g.BC.Column.format g.TC.Column.format (g.BC.Column.content c.args.self.now.bounds) (g.TC.Column.content c.args.self.now.values) c.args.index c.requires.in_range

pub place_in-place-requires : goal.place_in-place-requires
place_in-place-requires g c = item_inside g.BC.Column.format g.TC.Column.format c.args.index _ _ c.args.at c.requires.sound c.range_of-lower.ensures.lower c.range_of-lower.ensures.upper c.requires.fits.0

pub set_row-requires-clause-sound : goal.set_row-requires-clause-sound
set_row-requires-clause-sound g c = (lists_parts g.BC.Column.format g.TC.Column.format c.requires.sound).values

pub set_row-requires-clause-in_range : goal.set_row-requires-clause-in_range
set_row-requires-clause-in_range g c =
    let m = item_inside g.BC.Column.format g.TC.Column.format c.args.index _ _ c.args.at c.requires.sound c.range_of-lower.ensures.lower c.range_of-lower.ensures.upper c.requires.fits.0 in
    rw c.place_in-place.ensures (item_before g.BC.Column.format g.TC.Column.format c.args.index _ _ c.args.at c.requires.sound c.range_of-lower.ensures.lower c.range_of-lower.ensures.upper m)

pub set_row-requires-clause-fits : goal.set_row-requires-clause-fits
set_row-requires-clause-fits g c =
    let m = item_inside g.BC.Column.format g.TC.Column.format c.args.index _ _ c.args.at c.requires.sound c.range_of-lower.ensures.lower c.range_of-lower.ensures.upper c.requires.fits.0 in
    rw c.place_in-place.ensures (rw (list_item g.BC.Column.format g.TC.Column.format (g.BC.Column.content c.args.self.now.bounds) (g.TC.Column.content c.args.self.now.values) c.args.index _ _ c.args.at c.range_of-lower.ensures.lower c.range_of-lower.ensures.upper m) at c.requires.fits.1)

pub returns : goal.returns
returns g c =
    let m = item_inside g.BC.Column.format g.TC.Column.format c.args.index _ _ c.args.at c.requires.sound c.range_of-lower.ensures.lower c.range_of-lower.ensures.upper c.requires.fits.0 in
    list_wrote g.BC.Column.format g.TC.Column.format c.args.index _ _ c.args.at _ c.requires.sound c.range_of-lower.ensures.lower c.range_of-lower.ensures.upper m (rw c.place_in-place.ensures at c.set_row.ensures)

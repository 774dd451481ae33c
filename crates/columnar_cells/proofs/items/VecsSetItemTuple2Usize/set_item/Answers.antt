use Rattle.columnar_lists.specs.ListLaws.{lists_parts, lists_within}
use Rattle.columnar_cells.specs.ListLaws.{list_wrote, list_item, item_inside, item_before}
use Rattle.columnar_cells.proofs.items.VecsSetItemTuple2Usize.set_item.Goals as goal

pub range_of-lower-requires-clause-sound : goal.range_of-lower-requires-clause-sound
range_of-lower-requires-clause-sound g c = (lists_parts g.BC.Column.format g.TC.Column.format c.requires.sound).bounds

pub range_of-lower-requires-clause-in_range : goal.range_of-lower-requires-clause-in_range
range_of-lower-requires-clause-in_range g c = lists_within g.BC.Column.format g.TC.Column.format (g.BC.Column.content c.args.self.now.bounds) (g.TC.Column.content c.args.self.now.values) c.args.index c.requires.in_range

pub place_in-place-requires : goal.place_in-place-requires
place_in-place-requires g c = item_inside g.BC.Column.format g.TC.Column.format c.args.index _ _ c.args.at.0 c.requires.sound c.range_of-lower.ensures.lower c.range_of-lower.ensures.upper c.requires.fits.0

pub set_item-requires-clause-sound : goal.set_item-requires-clause-sound
set_item-requires-clause-sound g c = (lists_parts g.BC.Column.format g.TC.Column.format c.requires.sound).values

pub set_item-requires-clause-in_range : goal.set_item-requires-clause-in_range
set_item-requires-clause-in_range g c =
    let m = item_inside g.BC.Column.format g.TC.Column.format c.args.index _ _ c.args.at.0 c.requires.sound c.range_of-lower.ensures.lower c.range_of-lower.ensures.upper c.requires.fits.0 in
    rw c.place_in-place.ensures (item_before g.BC.Column.format g.TC.Column.format c.args.index _ _ c.args.at.0 c.requires.sound c.range_of-lower.ensures.lower c.range_of-lower.ensures.upper m)

pub set_item-requires-clause-fits : goal.set_item-requires-clause-fits
set_item-requires-clause-fits g c =
    let m = item_inside g.BC.Column.format g.TC.Column.format c.args.index _ _ c.args.at.0 c.requires.sound c.range_of-lower.ensures.lower c.range_of-lower.ensures.upper c.requires.fits.0 in
    rw c.place_in-place.ensures (rw (list_item g.BC.Column.format g.TC.Column.format (g.BC.Column.content c.args.self.now.bounds) (g.TC.Column.content c.args.self.now.values) c.args.index _ _ c.args.at.0 c.range_of-lower.ensures.lower c.range_of-lower.ensures.upper m) at c.requires.fits.1)

pub returns : goal.returns
returns g c =
    let m = item_inside g.BC.Column.format g.TC.Column.format c.args.index _ _ c.args.at.0 c.requires.sound c.range_of-lower.ensures.lower c.range_of-lower.ensures.upper c.requires.fits.0 in
    rw (list_item g.BC.Column.format g.TC.Column.format (g.BC.Column.content c.args.self.now.bounds) (g.TC.Column.content c.args.self.now.values) c.args.index _ _ c.args.at.0 c.range_of-lower.ensures.lower c.range_of-lower.ensures.upper m) (list_wrote g.BC.Column.format g.TC.Column.format c.args.index _ _ c.args.at.0 _ c.requires.sound c.range_of-lower.ensures.lower c.range_of-lower.ensures.upper m (rw c.place_in-place.ensures at c.set_item.ensures))

use Rattle.std.proofs.Common.{arith}
use Rattle.columnar_lists.specs.ListLaws.{lists_parts, lists_within}
use Rattle.columnar_cells.specs.ListLaws.{list_rises, item_tested, no_item, item_before}
use Rattle.columnar_cells.proofs.items.VecsSetItemTuple2Usize.may_set_item.Goals as goal

pub range_of-lower-requires-clause-sound : goal.range_of-lower-requires-clause-sound
range_of-lower-requires-clause-sound g c = (lists_parts g.BC.Column.format g.TC.Column.format c.requires.sound).bounds

pub range_of-lower-requires-clause-in_range : goal.range_of-lower-requires-clause-in_range
range_of-lower-requires-clause-in_range g c = lists_within g.BC.Column.format g.TC.Column.format (g.BC.Column.content c.args.self.now.bounds) (g.TC.Column.content c.args.self.now.values) c.args.index c.requires.in_range

pub overflow_sub-upper : goal.overflow_sub-upper
overflow_sub-upper g c = list_rises g.BC.Column.format g.TC.Column.format c.args.index _ _ c.requires.sound c.range_of-lower.ensures.lower c.range_of-lower.ensures.upper

pub may_set_item-requires-clause-sound : goal.may_set_item-requires-clause-sound
may_set_item-requires-clause-sound g c = (lists_parts g.BC.Column.format g.TC.Column.format c.requires.sound).values

pub may_set_item-requires-clause-in_range : goal.may_set_item-requires-clause-in_range
may_set_item-requires-clause-in_range g c = rw c.place_in.ensures (item_before g.BC.Column.format g.TC.Column.format c.args.index _ _ c.args.at.0 c.requires.sound c.range_of-lower.ensures.lower c.range_of-lower.ensures.upper (omega (arith, c.if-at-upper.true)))

pub returns-then-at-upper : goal.returns-then-at-upper
returns-then-at-upper g c = item_tested (λ s t. g.TC.SetItem.fits s c.args.at.1 t) g.BC.Column.format g.TC.Column.format c.args.index _ _ c.args.at.0 _ _ c.requires.sound c.range_of-lower.ensures.lower c.range_of-lower.ensures.upper c.if-at-upper.true (rw c.place_in.ensures at c.may_set_item.ensures)

pub returns-else-at-upper : goal.returns-else-at-upper
returns-else-at-upper g c = no_item (λ s t. g.TC.SetItem.fits s c.args.at.1 t) g.BC.Column.format g.TC.Column.format c.args.index _ _ c.args.at.0 _ c.requires.sound c.range_of-lower.ensures.lower c.range_of-lower.ensures.upper c.if-at-upper.false

use Rattle.columnar_lists.specs.ListLaws.{lists_parts, lists_within_le, end_within, lists_cut_at}
use Rattle.columnar_lists.specs.RoomLaws.{cut_to, lists_free}
use Rattle.columnar_lists.proofs.parts.cut_lists.Goals as goal

pub start_of-end-requires-clause-sound : goal.start_of-end-requires-clause-sound
start_of-end-requires-clause-sound g c = (lists_parts g.BC.Column.format g.TC.Column.format c.requires.sound).bounds

pub truncate-requires-clause-sound : goal.truncate-requires-clause-sound
truncate-requires-clause-sound g c = (lists_parts g.BC.Column.format g.TC.Column.format c.requires.sound).values

pub truncate-requires-2-clause-sound : goal.truncate-requires-2-clause-sound
truncate-requires-2-clause-sound g c = (lists_parts g.BC.Column.format g.TC.Column.format c.requires.sound).bounds

pub start_of-end-requires-clause-in_range : goal.start_of-end-requires-clause-in_range
start_of-end-requires-clause-in_range g c = lists_within_le g.BC.Column.format g.TC.Column.format (g.BC.Column.content c.args.bounds.now) (g.TC.Column.content c.args.values.now) c.args.n c.requires.in_range

pub truncate-requires-clause-in_range : goal.truncate-requires-clause-in_range
truncate-requires-clause-in_range g c = end_within g.BC.Column.format g.TC.Column.format c.args.n c.requires.sound c.start_of-end.ensures

pub truncate-requires-2-clause-in_range : goal.truncate-requires-2-clause-in_range
truncate-requires-2-clause-in_range g c = lists_within_le g.BC.Column.format g.TC.Column.format (g.BC.Column.content c.args.bounds.now) (g.TC.Column.content c.args.values.now) c.args.n c.requires.in_range

pub returns-clause-cut : goal.returns-clause-cut
returns-clause-cut g c = lists_cut_at g.BC.Column.format g.TC.Column.format c.requires.sound c.start_of-end.ensures c.truncate-2.ensures.cut c.truncate.ensures.cut

pub returns-clause-freed : goal.returns-clause-freed
returns-clause-freed g c =
    let w = end_within g.BC.Column.format g.TC.Column.format c.args.n c.requires.sound c.start_of-end.ensures in
    lists_free g.BC.Column.format g.TC.Column.format c.args.n c.start_of-end.result _ g.met.BC.Offsets.bounds.are_numbers c.start_of-end.ensures (cut_to g.TC.Column.format c.truncate.ensures.cut w) c.truncate-2.ensures.freed c.truncate.ensures.freed

use Rattle.std.proofs.Common.{List}
use Rattle.columnar_base.specs.Row.{Row}
use Rattle.columnar_core.specs.Bounds.{numbers}
use Rattle.columnar_core.specs.BoundLaws.{number_get}
use Rattle.columnar_lists.specs.CutLaws.{cut_get}
use Rattle.columnar_lists.specs.ListLaws.{lists_parts, lists_within, piece_sound}
use Rattle.columnar_lists.proofs.vector.VecsIndex.get.Goals as goal

pub range_of-lower-requires : goal.range_of-lower-requires
range_of-lower-requires g c = record {
  sound = (lists_parts g.BC.Column.format g.TC.Column.format c.requires.sound).bounds;
  in_range = lists_within g.BC.Column.format g.TC.Column.format (g.BC.Column.content c.args.self.now.bounds) (g.TC.Column.content c.args.self.now.values) c.args.index c.requires.in_range;
}

pub returns-clause-row : goal.returns-clause-row
returns-clause-row g c =
    let rs : List Row = g.BC.Column.format.rows (g.BC.Column.content c.args.self.now.bounds) in
    cut_get c.args.index 0 (numbers rs) (g.TC.Column.format.rows (g.TC.Column.content c.args.self.now.values)) c.range_of-lower.result.0 c.range_of-lower.result.1 c.range_of-lower.ensures.lower (number_get rs c.args.index c.range_of-lower.result.1 c.range_of-lower.ensures.upper)

pub returns-clause-valid : goal.returns-clause-valid
returns-clause-valid g c = piece_sound g.BC.Column.format g.TC.Column.format c.args.index c.requires.sound c.range_of-lower.ensures.lower c.range_of-lower.ensures.upper

pub invariant_of-result : goal.invariant_of-result
invariant_of-result g c = record { sound = piece_sound g.BC.Column.format g.TC.Column.format c.args.index c.requires.sound c.range_of-lower.ensures.lower c.range_of-lower.ensures.upper }

use Rattle.columnar_base.specs.TupleLaws.{pair_parts, pair_within, slice_get-tuples}
use Rattle.columnar_base.proofs.tuple.RefTuple2Index.get.Goals as goal

pub get-requires : goal.get-requires
get-requires g c = record { sound = (pair_parts g.A.Column.format g.B.Column.format c.requires.sound).left; in_range = (pair_within g.A.Column.format g.B.Column.format c.args.index c.requires.sound c.requires.in_range).0 }

pub get-requires-2 : goal.get-requires-2
get-requires-2 g c = record { sound = (pair_parts g.A.Column.format g.B.Column.format c.requires.sound).right; in_range = (pair_within g.A.Column.format g.B.Column.format c.args.index c.requires.sound c.requires.in_range).1 }

pub returns-clause-row : goal.returns-clause-row
returns-clause-row g c = slice_get-tuples c.args.index _ _ _ _ c.get.ensures.row c.get-2.ensures.row

-- Made by .ci/widths.py: change .ci/widths/answers.template, and not this file.
use Rattle.std.proofs.Common.{[], ◌∷◌}
use Rattle.columnar_base.specs.TupleLaws.{slice_get-tuples}
use Rattle.columnar_base.specs.LongTupleLaws.{tuple_parts, within}
use Rattle.columnar_base.proofs.tuple.four.Tuple4Index.get.Goals as goal

pub get-first-requires : goal.get-first-requires
get-first-requires g c = let p = (tuple_parts g.A.Column.format g.B.Column.format (g.C.Column.format ∷ g.D.Column.format ∷ []) c.requires.sound).0 in record { sound = p.sound; in_range = within p c.requires.in_range }

pub get-second-requires : goal.get-second-requires
get-second-requires g c = let p = (tuple_parts g.A.Column.format g.B.Column.format (g.C.Column.format ∷ g.D.Column.format ∷ []) c.requires.sound).1.0 in record { sound = p.sound; in_range = within p c.requires.in_range }

pub get-third-requires : goal.get-third-requires
get-third-requires g c = let p = (tuple_parts g.A.Column.format g.B.Column.format (g.C.Column.format ∷ g.D.Column.format ∷ []) c.requires.sound).1.1.0 in record { sound = p.sound; in_range = within p c.requires.in_range }

pub get-fourth-requires : goal.get-fourth-requires
get-fourth-requires g c = let p = (tuple_parts g.A.Column.format g.B.Column.format (g.C.Column.format ∷ g.D.Column.format ∷ []) c.requires.sound).1.1.1 in record { sound = p.sound; in_range = within p c.requires.in_range }

pub returns-clause-row : goal.returns-clause-row
returns-clause-row g c = slice_get-tuples c.args.index _ _ _ _ c.get-first.ensures.row (slice_get-tuples c.args.index _ _ _ _ c.get-second.ensures.row (slice_get-tuples c.args.index _ _ _ _ c.get-third.ensures.row c.get-fourth.ensures.row))

-- Made by .ci/widths.py: change .ci/widths/answers.template, and not this file.
use Rattle.std.proofs.Common.{[], ◌∷◌}
use Rattle.columnar_base.specs.TupleLaws.{slice_get-tuples}
use Rattle.columnar_base.specs.LongTupleLaws.{tuple_parts, within}
use Rattle.columnar_base.proofs.tuple.three.RefTuple3Index.get.Goals as goal

pub get-requires : goal.get-requires
get-requires g c = let p = (tuple_parts g.A.Column.format g.B.Column.format (g.C.Column.format ∷ []) c.requires.sound).0 in record { sound = p.sound; in_range = within p c.requires.in_range }

pub get-requires-2 : goal.get-requires-2
get-requires-2 g c = let p = (tuple_parts g.A.Column.format g.B.Column.format (g.C.Column.format ∷ []) c.requires.sound).1.0 in record { sound = p.sound; in_range = within p c.requires.in_range }

pub get-requires-3 : goal.get-requires-3
get-requires-3 g c = let p = (tuple_parts g.A.Column.format g.B.Column.format (g.C.Column.format ∷ []) c.requires.sound).1.1 in record { sound = p.sound; in_range = within p c.requires.in_range }

pub returns-clause-row : goal.returns-clause-row
returns-clause-row g c = slice_get-tuples c.args.index _ _ _ _ c.get.ensures.row (slice_get-tuples c.args.index _ _ _ _ c.get-2.ensures.row c.get-3.ensures.row)

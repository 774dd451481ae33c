-- Made by .ci/widths.py: change .ci/widths/cells_answers.template, and not this file.
use Rattle.std.proofs.Common.{[], ◌∷◌}
use Rattle.columnar_base.specs.LongTupleLaws.{tuple_parts, within}
use Rattle.columnar_cells.specs.RowAtLaws.{tuple_row, both_hold}
use Rattle.columnar_cells.proofs.tuple.three.Tuple3SetRow.may_set.Goals as goal

pub may_set-first-requires-clause-sound : goal.may_set-first-requires-clause-sound
may_set-first-requires-clause-sound g c = (tuple_parts g.A.Column.format g.B.Column.format (g.C.Column.format ∷ []) c.requires.sound).0.sound

pub may_set-second-requires-clause-sound : goal.may_set-second-requires-clause-sound
may_set-second-requires-clause-sound g c = (tuple_parts g.A.Column.format g.B.Column.format (g.C.Column.format ∷ []) c.requires.sound).1.0.sound

pub may_set-third-requires-clause-sound : goal.may_set-third-requires-clause-sound
may_set-third-requires-clause-sound g c = (tuple_parts g.A.Column.format g.B.Column.format (g.C.Column.format ∷ []) c.requires.sound).1.1.sound

pub may_set-first-requires-clause-in_range : goal.may_set-first-requires-clause-in_range
may_set-first-requires-clause-in_range g c = within (tuple_parts g.A.Column.format g.B.Column.format (g.C.Column.format ∷ []) c.requires.sound).0 c.requires.in_range

pub may_set-second-requires-clause-in_range : goal.may_set-second-requires-clause-in_range
may_set-second-requires-clause-in_range g c = within (tuple_parts g.A.Column.format g.B.Column.format (g.C.Column.format ∷ []) c.requires.sound).1.0 c.requires.in_range

pub may_set-third-requires-clause-in_range : goal.may_set-third-requires-clause-in_range
may_set-third-requires-clause-in_range g c = within (tuple_parts g.A.Column.format g.B.Column.format (g.C.Column.format ∷ []) c.requires.sound).1.1 c.requires.in_range

pub returns : goal.returns
returns g c = rw (tuple_row g.A.Column.format g.B.Column.format (g.C.Column.format ∷ []) c.args.index c.requires.sound c.requires.in_range) (both_hold _ _ c.may_set-first.ensures (both_hold _ _ c.may_set-second.ensures c.may_set-third.ensures))

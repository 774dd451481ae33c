-- Made by .ci/widths.py: change .ci/widths/cells_field_answers.template, and not this file.
use Rattle.std.proofs.Common.{[], ◌∷◌}
use Rattle.columnar_base.specs.LongTupleLaws.{tuple_parts, within}
use Rattle.columnar_cells.specs.RowAtLaws.{tuple_row}
use Rattle.columnar_cells.proofs.tuple.seven.Tuple7SetItemField5.may_set_item.Goals as goal

pub may_set-requires-clause-sound : goal.may_set-requires-clause-sound
may_set-requires-clause-sound g c = (tuple_parts g.A.Column.format g.B.Column.format (g.C.Column.format ∷ g.D.Column.format ∷ g.E.Column.format ∷ g.F.Column.format ∷ g.G.Column.format ∷ []) c.requires.sound).1.1.1.1.1.0.sound

pub may_set-requires-clause-in_range : goal.may_set-requires-clause-in_range
may_set-requires-clause-in_range g c = within (tuple_parts g.A.Column.format g.B.Column.format (g.C.Column.format ∷ g.D.Column.format ∷ g.E.Column.format ∷ g.F.Column.format ∷ g.G.Column.format ∷ []) c.requires.sound).1.1.1.1.1.0 c.requires.in_range

pub returns : goal.returns
returns g c = rw (tuple_row g.A.Column.format g.B.Column.format (g.C.Column.format ∷ g.D.Column.format ∷ g.E.Column.format ∷ g.F.Column.format ∷ g.G.Column.format ∷ []) c.args.index c.requires.sound c.requires.in_range) c.may_set.ensures

-- Made by .ci/widths.py: change .ci/widths/fields_answers.template, and not this file.
use Rattle.std.proofs.Common.{[], ◌∷◌}
use Rattle.columnar_own.specs.FieldLaws.{tuple_fields}
use Rattle.columnar_own.proofs.fields.fields_of_six.Goals as goal

pub returns-clause-first : goal.returns-clause-first
returns-clause-first g c = (tuple_fields g.A.Column.format g.B.Column.format (g.C.Column.format ∷ g.D.Column.format ∷ g.E.Column.format ∷ g.F.Column.format ∷ []) _ c.requires).0.sound

pub returns-clause-second : goal.returns-clause-second
returns-clause-second g c = (tuple_fields g.A.Column.format g.B.Column.format (g.C.Column.format ∷ g.D.Column.format ∷ g.E.Column.format ∷ g.F.Column.format ∷ []) _ c.requires).1.0.sound

pub returns-clause-third : goal.returns-clause-third
returns-clause-third g c = (tuple_fields g.A.Column.format g.B.Column.format (g.C.Column.format ∷ g.D.Column.format ∷ g.E.Column.format ∷ g.F.Column.format ∷ []) _ c.requires).1.1.0.sound

pub returns-clause-fourth : goal.returns-clause-fourth
returns-clause-fourth g c = (tuple_fields g.A.Column.format g.B.Column.format (g.C.Column.format ∷ g.D.Column.format ∷ g.E.Column.format ∷ g.F.Column.format ∷ []) _ c.requires).1.1.1.0.sound

pub returns-clause-fifth : goal.returns-clause-fifth
returns-clause-fifth g c = (tuple_fields g.A.Column.format g.B.Column.format (g.C.Column.format ∷ g.D.Column.format ∷ g.E.Column.format ∷ g.F.Column.format ∷ []) _ c.requires).1.1.1.1.0.sound

pub returns-clause-sixth : goal.returns-clause-sixth
returns-clause-sixth g c = (tuple_fields g.A.Column.format g.B.Column.format (g.C.Column.format ∷ g.D.Column.format ∷ g.E.Column.format ∷ g.F.Column.format ∷ []) _ c.requires).1.1.1.1.1.sound

pub returns-clause-rows_of_first : goal.returns-clause-rows_of_first
returns-clause-rows_of_first g c = (tuple_fields g.A.Column.format g.B.Column.format (g.C.Column.format ∷ g.D.Column.format ∷ g.E.Column.format ∷ g.F.Column.format ∷ []) _ c.requires).0.rows

pub returns-clause-rows_of_second : goal.returns-clause-rows_of_second
returns-clause-rows_of_second g c = (tuple_fields g.A.Column.format g.B.Column.format (g.C.Column.format ∷ g.D.Column.format ∷ g.E.Column.format ∷ g.F.Column.format ∷ []) _ c.requires).1.0.rows

pub returns-clause-rows_of_third : goal.returns-clause-rows_of_third
returns-clause-rows_of_third g c = (tuple_fields g.A.Column.format g.B.Column.format (g.C.Column.format ∷ g.D.Column.format ∷ g.E.Column.format ∷ g.F.Column.format ∷ []) _ c.requires).1.1.0.rows

pub returns-clause-rows_of_fourth : goal.returns-clause-rows_of_fourth
returns-clause-rows_of_fourth g c = (tuple_fields g.A.Column.format g.B.Column.format (g.C.Column.format ∷ g.D.Column.format ∷ g.E.Column.format ∷ g.F.Column.format ∷ []) _ c.requires).1.1.1.0.rows

pub returns-clause-rows_of_fifth : goal.returns-clause-rows_of_fifth
returns-clause-rows_of_fifth g c = (tuple_fields g.A.Column.format g.B.Column.format (g.C.Column.format ∷ g.D.Column.format ∷ g.E.Column.format ∷ g.F.Column.format ∷ []) _ c.requires).1.1.1.1.0.rows

pub returns-clause-rows_of_sixth : goal.returns-clause-rows_of_sixth
returns-clause-rows_of_sixth g c = (tuple_fields g.A.Column.format g.B.Column.format (g.C.Column.format ∷ g.D.Column.format ∷ g.E.Column.format ∷ g.F.Column.format ∷ []) _ c.requires).1.1.1.1.1.rows

use Rattle.std.proofs.Common.{[], ◌∷◌}
use Rattle.columnar_own.specs.FieldLaws.{nested_fields}
use Rattle.columnar_own.proofs.fields.fields_of_two.Goals as goal

pub returns-clause-first : goal.returns-clause-first
returns-clause-first g c = (nested_fields g.A.Column.format (g.B.Column.format ∷ []) _ c.requires).0.sound

pub returns-clause-second : goal.returns-clause-second
returns-clause-second g c = (nested_fields g.A.Column.format (g.B.Column.format ∷ []) _ c.requires).1.sound

pub returns-clause-rows_of_first : goal.returns-clause-rows_of_first
returns-clause-rows_of_first g c = (nested_fields g.A.Column.format (g.B.Column.format ∷ []) _ c.requires).0.rows

pub returns-clause-rows_of_second : goal.returns-clause-rows_of_second
returns-clause-rows_of_second g c = (nested_fields g.A.Column.format (g.B.Column.format ∷ []) _ c.requires).1.rows

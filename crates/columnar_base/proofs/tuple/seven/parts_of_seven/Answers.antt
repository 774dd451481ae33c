-- Made by .ci/widths.py: change .ci/widths/answers.template, and not this file.
use Rattle.std.proofs.Common.{[], ◌∷◌}
use Rattle.columnar_base.specs.LongTupleLaws.{tuple_parts}
use Rattle.columnar_base.proofs.tuple.seven.parts_of_seven.Goals as goal

pub returns-clause-first : goal.returns-clause-first
returns-clause-first g c = (tuple_parts g.A.Column.format g.B.Column.format (g.C.Column.format ∷ g.D.Column.format ∷ g.E.Column.format ∷ g.F.Column.format ∷ g.G.Column.format ∷ []) c.requires).0.sound

pub returns-clause-second : goal.returns-clause-second
returns-clause-second g c = (tuple_parts g.A.Column.format g.B.Column.format (g.C.Column.format ∷ g.D.Column.format ∷ g.E.Column.format ∷ g.F.Column.format ∷ g.G.Column.format ∷ []) c.requires).1.0.sound

pub returns-clause-third : goal.returns-clause-third
returns-clause-third g c = (tuple_parts g.A.Column.format g.B.Column.format (g.C.Column.format ∷ g.D.Column.format ∷ g.E.Column.format ∷ g.F.Column.format ∷ g.G.Column.format ∷ []) c.requires).1.1.0.sound

pub returns-clause-fourth : goal.returns-clause-fourth
returns-clause-fourth g c = (tuple_parts g.A.Column.format g.B.Column.format (g.C.Column.format ∷ g.D.Column.format ∷ g.E.Column.format ∷ g.F.Column.format ∷ g.G.Column.format ∷ []) c.requires).1.1.1.0.sound

pub returns-clause-fifth : goal.returns-clause-fifth
returns-clause-fifth g c = (tuple_parts g.A.Column.format g.B.Column.format (g.C.Column.format ∷ g.D.Column.format ∷ g.E.Column.format ∷ g.F.Column.format ∷ g.G.Column.format ∷ []) c.requires).1.1.1.1.0.sound

pub returns-clause-sixth : goal.returns-clause-sixth
returns-clause-sixth g c = (tuple_parts g.A.Column.format g.B.Column.format (g.C.Column.format ∷ g.D.Column.format ∷ g.E.Column.format ∷ g.F.Column.format ∷ g.G.Column.format ∷ []) c.requires).1.1.1.1.1.0.sound

pub returns-clause-seventh : goal.returns-clause-seventh
returns-clause-seventh g c = (tuple_parts g.A.Column.format g.B.Column.format (g.C.Column.format ∷ g.D.Column.format ∷ g.E.Column.format ∷ g.F.Column.format ∷ g.G.Column.format ∷ []) c.requires).1.1.1.1.1.1.sound

-- Made by .ci/widths.py: change .ci/widths/answers.template, and not this file.
use Rattle.std.proofs.Common.{[], ◌∷◌}
use Rattle.columnar_base.specs.LongTupleLaws.{tuple_parts}
use Rattle.columnar_base.proofs.tuple.three.parts_of_three.Goals as goal

pub returns-clause-first : goal.returns-clause-first
returns-clause-first g c = (tuple_parts g.A.Column.format g.B.Column.format (g.C.Column.format ∷ []) c.requires).0.sound

pub returns-clause-second : goal.returns-clause-second
returns-clause-second g c = (tuple_parts g.A.Column.format g.B.Column.format (g.C.Column.format ∷ []) c.requires).1.0.sound

pub returns-clause-third : goal.returns-clause-third
returns-clause-third g c = (tuple_parts g.A.Column.format g.B.Column.format (g.C.Column.format ∷ []) c.requires).1.1.sound

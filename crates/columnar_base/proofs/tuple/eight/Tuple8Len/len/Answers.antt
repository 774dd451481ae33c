-- Made by .ci/widths.py: change .ci/widths/answers.template, and not this file.
use Rattle.std.proofs.Common.{[], ◌∷◌, ◌∙◌}
use Rattle.columnar_base.specs.LongTupleLaws.{tuple_parts}
use Rattle.columnar_base.proofs.tuple.eight.Tuple8Len.len.Goals as goal

pub len-requires : goal.len-requires
len-requires g c = (tuple_parts g.A.Column.format g.B.Column.format (g.C.Column.format ∷ g.D.Column.format ∷ g.E.Column.format ∷ g.F.Column.format ∷ g.G.Column.format ∷ g.H.Column.format ∷ []) c.requires).0.sound

pub returns : goal.returns
returns g c = c.len.ensures ∙ (tuple_parts g.A.Column.format g.B.Column.format (g.C.Column.format ∷ g.D.Column.format ∷ g.E.Column.format ∷ g.F.Column.format ∷ g.G.Column.format ∷ g.H.Column.format ∷ []) c.requires).0.level

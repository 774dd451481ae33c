use Rattle.std.proofs.Common.{sym, ◌∙◌}
use Rattle.columnar_base.specs.SoloLaws.{solo_part, solo_length}
use Rattle.columnar_base.proofs.tuple.one.Tuple1Len.len.Goals as goal

pub len-requires : goal.len-requires
len-requires g c = solo_part g.A.Column.format c.requires

pub returns : goal.returns
returns g c = c.len.ensures ∙ sym (solo_length g.A.Column.format (g.A.Column.content c.args.self.now.0))

use Rattle.columnar_primitive.specs.FixedLaws.{length-fixed}
use Rattle.std.proofs.Common.{◌∙◌}
use Rattle.columnar_primitive.proofs.offsets.fixeds.FixedsLen.len.Goals as goal

pub returns : goal.returns
returns g c = c.word.ensures ∙ length-fixed g.row.K (g.CC.Words.bytes c.args.self.now.count)

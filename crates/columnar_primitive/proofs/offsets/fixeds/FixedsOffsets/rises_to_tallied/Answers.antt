use Rattle.columnar_primitive.specs.FixedLaws.{fixed_end}
use Rattle.columnar_primitive.proofs.offsets.fixeds.FixedsOffsets.rises_to_tallied.Goals as goal

pub returns-clause-value : goal.returns-clause-value
returns-clause-value g c = fixed_end g.row.K (g.CC.Words.bytes c.args.self.now.count) c.args.«end» c.word.result c.word.ensures

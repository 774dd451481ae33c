use Rattle.columnar_primitive.specs.StrideLaws.{rise_at}
use Rattle.columnar_primitive.proofs.offsets.strides.StridesOffsets.rises_to_tallied.Goals as goal

pub returns-clause-value : goal.returns-clause-value
returns-clause-value g c = rise_at (g.HC.Words.bytes c.args.self.now.head) (g.BC.Words.bytes c.args.self.now.bounds) c.args.«end» c.word-stride.result c.word.result c.rise.result c.rise.ensures.value c.word-stride.ensures c.word.ensures

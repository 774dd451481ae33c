use Rattle.std.proofs.Common.{arith}
use Rattle.std.specs.Int.{to_le_bytes, w64}
use Rattle.columnar_base.specs.Views.{items_content}
use Rattle.columnar_core.specs.BoundLaws.{words_few}
use Rattle.columnar_core.proofs.words.ViewU64Offsets.rises_to_tallied.Goals as goal

pub returns-clause-turns : goal.returns-clause-turns
returns-clause-turns g c = omega (arith, c.rises_by_reading.ensures.turns, words_few (items_content (to_le_bytes w64) c.args.self.now.items))

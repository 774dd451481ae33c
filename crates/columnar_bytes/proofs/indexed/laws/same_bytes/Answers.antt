use Rattle.columnar_core.specs.ByteLaws.{le_bytes-words}
use Rattle.columnar_bytes.proofs.indexed.laws.same_bytes.Goals as goal

pub returns : goal.returns
returns c = le_bytes-words

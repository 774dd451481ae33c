use Rattle.columnar_core.specs.WordLaws.{legal_words}
use Rattle.columnar_core.specs.ByteLaws.{slices-store_bytes}
use Rattle.columnar_bytes.proofs.indexed.laws.bytes_are_framed.Goals as goal

pub returns : goal.returns
returns c = record { legal = legal_words; slices = slices-store_bytes }

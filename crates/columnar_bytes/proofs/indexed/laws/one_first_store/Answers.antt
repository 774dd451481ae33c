use Rattle.columnar_bytes.specs.StreamLaws.{one_written, one_first}
use Rattle.columnar_bytes.proofs.indexed.laws.one_first_store.Goals as goal

pub returns : goal.returns
returns c = record { written = one_written; first = one_first }

use Rattle.columnar_bytes.specs.Streams.{rest_in}
use Rattle.columnar_bytes.specs.StreamLaws.{all_found, none_begins}
use Rattle.columnar_bytes.proofs.indexed.laws.stores_are_bytes.Goals as goal

pub returns : goal.returns
returns c = record {
  joined = λ bytes. (all_found bytes).0;
  stores = λ bytes. (all_found bytes).1.0;
  rest = λ bytes. none_begins (rest_in bytes) (all_found bytes).1.1;
}

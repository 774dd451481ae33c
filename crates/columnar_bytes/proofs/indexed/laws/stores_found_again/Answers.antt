use Rattle.columnar_bytes.specs.StreamLaws.{found_again, found_torn, false_begins}
use Rattle.columnar_bytes.proofs.indexed.laws.stores_found_again.Goals as goal

pub returns : goal.returns
returns c = record {
  stores = λ all rest a n. (found_again all rest a (false_begins rest n)).0;
  rest = λ all rest a n. (found_again all rest a (false_begins rest n)).1;
  torn = found_torn;
}

use Rattle.columnar_bytes.specs.TightLaws.{tight_words, tight_once}
use Rattle.columnar_bytes.proofs.indexed.laws.one_tight_store.Goals as goal

pub returns : goal.returns
returns c = record { written = tight_words; one = tight_once }

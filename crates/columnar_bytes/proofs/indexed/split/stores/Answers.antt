use Rattle.std.proofs.Common.{ap, ◌∙◌}
use Rattle.columnar_bytes.specs.Streams.{stores_in, rest_in}
use Rattle.columnar_bytes.specs.StreamLaws.{found_all, found_torn}
use Rattle.columnar_bytes.proofs.indexed.split.stores.Goals as goal

pub returns-clause-again : goal.returns-clause-again
returns-clause-again c = λ all a e. let h = found_all all a in (ap stores_in e ∙ h.0, ap rest_in e ∙ h.1)

pub returns-clause-torn : goal.returns-clause-torn
returns-clause-torn c = λ all missing a e l. found_torn all c.args.bytes.now missing a e l

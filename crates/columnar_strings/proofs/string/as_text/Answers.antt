use Rattle.columnar_strings.specs.StringLaws.{bytes_back}
use Rattle.columnar_strings.proofs.string.as_text.Goals as goal

pub returns-in-Err-clause-row : goal.returns-in-Err-clause-row
returns-in-Err-clause-row c = λ h. c.in-Err.ensures.cases.0 (rw (bytes_back c.args.bytes.now (λ i. (c.type_inv.bytes i).fits)) at h)

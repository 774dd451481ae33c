use Rattle.columnar_types.specs.OwnedLaws.{text_fit, text_answered, no_text_why}
use Rattle.columnar_types.proofs.text.BoxedStrFromRowRefSliceU8.from_row.Goals as goal

pub returns-in-Ok-from_str-clause-fit : goal.returns-in-Ok-from_str-clause-fit
returns-in-Ok-from_str-clause-fit c = text_fit c.args.row.now (λ i. (c.type_inv.row i).fits) c.in-Ok.ensures.cases.1

pub returns-in-Err-clause-why : goal.returns-in-Err-clause-why
returns-in-Err-clause-why c = no_text_why c.args.row.now (λ i. (c.type_inv.row i).fits) c.in-Err.ensures.cases.0

pub returns-in-Ok-from_str-clause-at_once : goal.returns-in-Ok-from_str-clause-at_once
returns-in-Ok-from_str-clause-at_once c = text_answered c.args.row.now (λ i. (c.type_inv.row i).fits) c.in-Ok.ensures.cases.1 _

pub returns-in-Err-from_str-clause-at_once : goal.returns-in-Err-from_str-clause-at_once
returns-in-Err-from_str-clause-at_once c = text_answered c.args.row.now (λ i. (c.type_inv.row i).fits) c.in-Ok.ensures.cases.1 _

use Rattle.std.proofs.Common.{◌∙◌, rules}
use Rattle.columnar_core.specs.WordViews.{view_bytes}
use Rattle.columnar_sums.specs.Discriminants.{forms_content, variants_of}
use Rattle.columnar_variants.specs.Duals.{slice_bytes}
use Rattle.columnar_variants.specs.FrontLaws.{below_same, counts_all}
use Rattle.columnar_schema.specs.Formats.{bank_of}
use Rattle.columnar_schema.proofs.cases.count_cases.Goals as goal

pub returns-in-Some-clause-below : goal.returns-in-Some-clause-below
returns-in-Some-clause-below g c = c.in-Some.ensures.below ∙ below_same (bank_of c.args.cases.now).size c.cases_of.result (variants_of (forms_content slice_bytes view_bytes c.args.indexes.now)) c.cases_of.ensures.few c.cases_of.ensures.many c.hold_bytes.ensures

pub returns-in-None-clause-below : goal.returns-in-None-clause-below
returns-in-None-clause-below g c = c.in-None.ensures.below ∙ below_same (bank_of c.args.cases.now).size c.cases_of.result (variants_of (forms_content slice_bytes view_bytes c.args.indexes.now)) c.cases_of.ensures.few c.cases_of.ensures.many c.hold_bytes.ensures

pub returns-in-Some-clause-counted : goal.returns-in-Some-clause-counted
returns-in-Some-clause-counted g c = counts_all (variants_of (forms_content slice_bytes view_bytes c.args.indexes.now)) c.in-Some.counts (search rules) c.hold_bytes.ensures c.in-Some.ensures.counted

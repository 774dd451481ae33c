use Rattle.std.proofs.Common.{arith}
use Rattle.columnar_core.specs.WordViews.{view_bytes}
use Rattle.columnar_sums.specs.Discriminants.{forms_content, variants_of}
use Rattle.columnar_variants.specs.Duals.{slice_bytes}
use Rattle.columnar_variants.specs.VariantCountLaws.{below_sole}
use Rattle.columnar_schema.proofs.cases.hold_bytes.Goals as goal

pub returns-in-Some : goal.returns-in-Some
returns-in-Some c = below_sole 256 c.in-Some._kind (variants_of (forms_content slice_bytes view_bytes c.args.indexes.now)) (omega arith) c.in-Some.ensures.next

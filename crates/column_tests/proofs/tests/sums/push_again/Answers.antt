use Rattle.std.proofs.Common.{sym, length, ◌∙◌}
use Rattle.columnar_sums.specs.Discriminants.{owned_forms, variants_of}
use Rattle.columnar_sums.specs.DiscriminantLaws.{length-variant_rows}
use Rattle.column_tests.proofs.tests.sums.push_again.Goals as goal

pub push-requires-clause-numbered : goal.push-requires-clause-numbered
push-requires-clause-numbered c = c.len-rows.ensures ∙ (length-variant_rows (variants_of (owned_forms c.args.kinds.now.variant.items c.args.kinds.now.offset.items)) ∙ sym c.in_ok-variant.ensures.next)

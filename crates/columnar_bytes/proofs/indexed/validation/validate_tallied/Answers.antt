use Rattle.std.proofs.Common.{◌∙◌}
use Rattle.columnar_bytes.specs.AcceptedLaws.{judged_accepted, judged_exact}
use Rattle.columnar_bytes.proofs.indexed.validation.validate_tallied.Goals as goal

pub returns-clause-accepted : goal.returns-clause-accepted
returns-clause-accepted g c = judged_accepted g.T.Column.format c.args.bytes.now c.validate_tallied.result c.in_ok-validate_structure_tallied.ensures.store (c.in_ok-validate_structure_tallied.ensures.count ∙ c.slice_count.ensures) (rw c.new.ensures at c.validate_tallied.ensures.exact)

pub returns-clause-exact : goal.returns-clause-exact
returns-clause-exact g c = judged_exact g.T.Column.format c.args.bytes.now c.validate_tallied.result c.in_ok-validate_structure_tallied.ensures.store (c.in_ok-validate_structure_tallied.ensures.count ∙ c.slice_count.ensures) (rw c.new.ensures at c.validate_tallied.ensures.exact)

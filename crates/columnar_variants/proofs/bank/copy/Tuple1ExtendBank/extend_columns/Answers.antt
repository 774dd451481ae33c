use Rattle.std.proofs.Common.{arith}
use Rattle.std.specs.Prelude.{slice_index}
use Rattle.std.proofs.lemmas.Result.{on_ok_weaker, IfErr-weaker}
use Rattle.columnar_variants.specs.Variants.{leaf}
use Rattle.columnar_variants.specs.BankCopyLaws.{leaf_copied_ends, leaf_denied_ends}
use Rattle.columnar_variants.proofs.bank.copy.Tuple1ExtendBank.extend_columns.Goals as goal

pub extend_from_self-requires-clause-ordered : goal.extend_from_self-requires-clause-ordered
extend_from_self-requires-clause-ordered g c = omega (arith, c.requires.ordered 0 (omega arith), c.first_of.ensures, c.first_of-2.ensures)

pub extend_from_self-requires-clause-in_range : goal.extend_from_self-requires-clause-in_range
extend_from_self-requires-clause-in_range g c = omega (arith, c.requires.in_range 0 (omega arith), c.first_of-2.ensures)

pub returns-clause-ok : goal.returns-clause-ok
returns-clause-ok g c = on_ok_weaker c.extend_from_self.result (λ t. leaf_copied_ends g.A.Column.format ((leaf g.V.Column.format).table (g.V.Column.content c.args.view.0)) (slice_index c.args.firsts.now) (slice_index c.args.lasts.now) c.first_of.ensures c.first_of-2.ensures t) c.extend_from_self.ensures.ok

pub returns-clause-err : goal.returns-clause-err
returns-clause-err g c = IfErr-weaker c.extend_from_self.result _ _ (λ e t. leaf_denied_ends g.A.Column.format ((leaf g.V.Column.format).table (g.V.Column.content c.args.view.0)) (slice_index c.args.firsts.now) (slice_index c.args.lasts.now) c.first_of.ensures c.first_of-2.ensures t) c.extend_from_self.ensures.err

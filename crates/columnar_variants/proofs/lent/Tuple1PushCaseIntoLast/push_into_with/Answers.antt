use Rattle.std.proofs.Common.{refl, arith}
use Rattle.std.proofs.lemmas.Result.{on_ok_weaker, IfErr-weaker}
use Rattle.columnar_sums.specs.Discriminants.{owned_forms, variants_of}
use Rattle.columnar_variants.specs.Variants.{leaf}
use Rattle.columnar_variants.specs.BankCaseLaws.{told_first, leaf_case_took, leaf_case_refused}
use Rattle.columnar_variants.proofs.lent.Tuple1PushCaseIntoLast.push_into_with.Goals as goal

pub push_into_case-requires-clause-told : goal.push_into_case-requires-clause-told
push_into_case-requires-clause-told g c = told_first (leaf g.A.Column.format) (g.A.Column.content c.args.self.now.0) (variants_of (owned_forms c.args.indexes.now.variant.items c.args.indexes.now.offset.items)) c.args.base (omega arith) c.requires.told

pub returns-clause-ok : goal.returns-clause-ok
returns-clause-ok g c = on_ok_weaker c.push_into_case.result (λ t. leaf_case_took g.A.Column.format refl t) c.push_into_case.ensures.ok

pub returns-clause-err : goal.returns-clause-err
returns-clause-err g c = IfErr-weaker c.push_into_case.result _ _ (λ e t. leaf_case_refused g.A.Column.format t) c.push_into_case.ensures.err

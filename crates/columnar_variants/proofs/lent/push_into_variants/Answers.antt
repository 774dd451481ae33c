use Rattle.std.proofs.Common.{arith}
use Rattle.std.proofs.lemmas.Result.{on_ok_weaker, IfErr-weaker}
use Rattle.columnar_variants.specs.VariantLaws.{variants_parts}
use Rattle.columnar_variants.specs.BankCaseLaws.{whole_took, whole_refused}
use Rattle.columnar_variants.proofs.lent.push_into_variants.Goals as goal

pub push_into_with-requires-clause-sound : goal.push_into_with-requires-clause-sound
push_into_with-requires-clause-sound g c = (variants_parts g.B.ColumnBank.bank c.requires.sound).parts

pub push_into_with-requires-clause-forms : goal.push_into_with-requires-clause-forms
push_into_with-requires-clause-forms g c = (variants_parts g.B.ColumnBank.bank c.requires.sound).forms

pub push_into_with-requires-clause-few : goal.push_into_with-requires-clause-few
push_into_with-requires-clause-few g c = omega (arith, g.met.B.FewColumns.few)

pub returns-clause-ok : goal.returns-clause-ok
returns-clause-ok g c = on_ok_weaker c.push_into_with.result (λ t. whole_took g.B.ColumnBank.bank g.met.B.ColumnBank.is_bank (g.T.Cases.variant c.args.item) (g.met.T.Cases.meant c.args.item) c.push_into_with.ensures.known c.requires.sound t) c.push_into_with.ensures.ok

pub returns-clause-err : goal.returns-clause-err
returns-clause-err g c = IfErr-weaker c.push_into_with.result _ _ (λ e t. whole_refused g.B.ColumnBank.bank g.met.B.ColumnBank.is_bank (g.T.Cases.variant c.args.item) (g.met.T.Cases.meant c.args.item) c.requires.sound t) c.push_into_with.ensures.err

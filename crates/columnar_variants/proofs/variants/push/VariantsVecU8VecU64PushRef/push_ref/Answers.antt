use Rattle.std.proofs.Common.{arith}
use Rattle.std.proofs.lemmas.Result.{on_ok_weaker, IfErr-weaker}
use Rattle.columnar_variants.specs.VariantLaws.{variants_parts}
use Rattle.columnar_variants.specs.BankCaseLaws.{whole_took, whole_refused}
use Rattle.columnar_variants.proofs.variants.push.VariantsVecU8VecU64PushRef.push_ref.Goals as goal

pub push_ref_with-requires-clause-sound : goal.push_ref_with-requires-clause-sound
push_ref_with-requires-clause-sound g c = (variants_parts g.B.ColumnBank.bank c.requires.sound).parts

pub push_ref_with-requires-clause-forms : goal.push_ref_with-requires-clause-forms
push_ref_with-requires-clause-forms g c = (variants_parts g.B.ColumnBank.bank c.requires.sound).forms

pub push_ref_with-requires-clause-few : goal.push_ref_with-requires-clause-few
push_ref_with-requires-clause-few g c = omega (arith, g.met.B.FewColumns.few)

pub returns-clause-ok : goal.returns-clause-ok
returns-clause-ok g c = on_ok_weaker c.push_ref_with.result (λ t. whole_took g.B.ColumnBank.bank g.met.B.ColumnBank.is_bank (g.T.Cases.variant c.args.item.now) (g.met.T.Cases.meant c.args.item.now) c.push_ref_with.ensures.known c.requires.sound t) c.push_ref_with.ensures.ok

pub returns-clause-err : goal.returns-clause-err
returns-clause-err g c = IfErr-weaker c.push_ref_with.result _ _ (λ e t. whole_refused g.B.ColumnBank.bank g.met.B.ColumnBank.is_bank (g.T.Cases.variant c.args.item.now) (g.met.T.Cases.meant c.args.item.now) c.requires.sound t) c.push_ref_with.ensures.err

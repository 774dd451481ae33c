use Rattle.std.proofs.Common.{refl, ap, arith}
use Rattle.std.proofs.lemmas.Result.{on_ok_weaker, IfErr-weaker}
use Rattle.columnar_core.specs.Format.{both}
use Rattle.columnar_sums.specs.Discriminants.{owned_forms, variants_of}
use Rattle.columnar_variants.specs.Nths.{nth_variant, nth_value}
use Rattle.columnar_variants.specs.Variants.{join}
use Rattle.columnar_variants.specs.VariantLaws.{beside_parts}
use Rattle.columnar_variants.specs.BankCaseLaws.{told_first, told_later, first_case_took, first_case_refused, later_case_took, later_case_refused}
use Rattle.columnar_variants.proofs.lent.Tuple2PushCaseIntoNth.push_into_with.Goals as goal

pub push_into_case-requires-clause-column : goal.push_into_case-requires-clause-column
push_into_case-requires-clause-column g c = (beside_parts g.A.Column.format g.B.ColumnBank.bank.sides c.requires.sound).0

pub push_into_case-requires-clause-told : goal.push_into_case-requires-clause-told
push_into_case-requires-clause-told g c = told_first (join g.A.Column.format g.B.ColumnBank.bank) (both (g.A.Column.content c.args.self.now.0) (g.B.ColumnBank.contents c.args.self.now.1)) (variants_of (owned_forms c.args.indexes.now.variant.items c.args.indexes.now.offset.items)) c.args.base (omega arith) c.requires.told

pub push_into_with-requires-clause-sound : goal.push_into_with-requires-clause-sound
push_into_with-requires-clause-sound g c = (beside_parts g.A.Column.format g.B.ColumnBank.bank.sides c.requires.sound).1

pub push_into_with-requires-clause-told : goal.push_into_with-requires-clause-told
push_into_with-requires-clause-told g c = told_later g.A.Column.format g.B.ColumnBank.bank (g.A.Column.content c.args.self.now.0) (g.B.ColumnBank.contents c.args.self.now.1) (variants_of (owned_forms c.args.indexes.now.variant.items c.args.indexes.now.offset.items)) c.args.base c.requires.told

pub returns-in-This-clause-ok : goal.returns-in-This-clause-ok
returns-in-This-clause-ok g c = on_ok_weaker c.push_into_case.result (λ t. first_case_took g.A.Column.format g.B.ColumnBank.bank g.met.B.ColumnBank.is_bank (ap (nth_variant g.T.Cases.variant) c.in-This.is) (ap (nth_value g.S.Item.meaning g.T.Cases.value) c.in-This.is) refl t) c.push_into_case.ensures.ok

pub returns-in-This-clause-err : goal.returns-in-This-clause-err
returns-in-This-clause-err g c = IfErr-weaker c.push_into_case.result _ _ (λ e t. first_case_refused g.A.Column.format g.B.ColumnBank.bank (ap (nth_variant g.T.Cases.variant) c.in-This.is) (ap (nth_value g.S.Item.meaning g.T.Cases.value) c.in-This.is) t) c.push_into_case.ensures.err

pub returns-in-Next-clause-ok : goal.returns-in-Next-clause-ok
returns-in-Next-clause-ok g c = on_ok_weaker c.push_into_with.result (λ t. later_case_took g.A.Column.format g.B.ColumnBank.bank (ap (nth_variant g.T.Cases.variant) c.in-Next.is) (ap (nth_value g.S.Item.meaning g.T.Cases.value) c.in-Next.is) t) c.push_into_with.ensures.ok

pub returns-in-Next-clause-err : goal.returns-in-Next-clause-err
returns-in-Next-clause-err g c = IfErr-weaker c.push_into_with.result _ _ (λ e t. later_case_refused g.A.Column.format g.B.ColumnBank.bank (ap (nth_variant g.T.Cases.variant) c.in-Next.is) (ap (nth_value g.S.Item.meaning g.T.Cases.value) c.in-Next.is) t) c.push_into_with.ensures.err

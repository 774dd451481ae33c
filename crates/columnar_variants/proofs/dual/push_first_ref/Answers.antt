use Rattle.std.proofs.Common.{arith}
use Rattle.std.proofs.lemmas.Result.{on_ok_weaker, IfErr-weaker}
use Rattle.columnar_variants.specs.Variants.{leaf}
use Rattle.columnar_variants.specs.Duals.{dual_bank}
use Rattle.columnar_variants.specs.DualLaws.{dual_law, firsts_sound, forms_sound}
use Rattle.columnar_variants.specs.CaseLaws.{case_took, case_refused}
use Rattle.columnar_variants.specs.VariantLaws.{variants_number, leaf_bank, first_took, first_refused, first_stayed}
use Rattle.columnar_variants.proofs.dual.push_first_ref.Goals as goal

pub push_ref_case-requires-clause-column : goal.push_ref_case-requires-clause-column
push_ref_case-requires-clause-column g c = firsts_sound g.SC.Column.format g.TC.Column.format c.requires.sound

pub push_ref_case-requires-clause-forms : goal.push_ref_case-requires-clause-forms
push_ref_case-requires-clause-forms g c = forms_sound g.SC.Column.format g.TC.Column.format c.requires.sound

pub push_ref_case-requires-clause-told : goal.push_ref_case-requires-clause-told
push_ref_case-requires-clause-told g c = variants_number (dual_bank g.SC.Column.format g.TC.Column.format) (dual_law g.SC.Column.format g.TC.Column.format) c.requires.sound 0 (omega arith)

pub returns-clause-ok : goal.returns-clause-ok
returns-clause-ok g c = on_ok_weaker c.push_ref_case.result (λ t. case_took (dual_bank g.SC.Column.format g.TC.Column.format) (dual_law g.SC.Column.format g.TC.Column.format) 0 (omega arith) c.requires.sound t (first_took g.SC.Column.format (leaf g.TC.Column.format) (leaf_bank g.TC.Column.format))) c.push_ref_case.ensures.ok

pub returns-clause-err : goal.returns-clause-err
returns-clause-err g c = IfErr-weaker c.push_ref_case.result _ _ (λ e t. case_refused (dual_bank g.SC.Column.format g.TC.Column.format) (dual_law g.SC.Column.format g.TC.Column.format) 0 c.requires.sound t (first_refused g.SC.Column.format (leaf g.TC.Column.format)) (first_stayed g.SC.Column.format (leaf g.TC.Column.format))) c.push_ref_case.ensures.err

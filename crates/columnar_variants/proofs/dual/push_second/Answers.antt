use Rattle.std.proofs.Common.{arith}
use Rattle.std.proofs.lemmas.Result.{on_ok_weaker, IfErr-weaker}
use Rattle.columnar_variants.specs.Variants.{leaf}
use Rattle.columnar_variants.specs.Duals.{dual_bank}
use Rattle.columnar_variants.specs.DualLaws.{dual_law, seconds_sound, forms_sound}
use Rattle.columnar_variants.specs.CaseLaws.{case_took, case_refused}
use Rattle.columnar_variants.specs.VariantLaws.{variants_number, leaf_took, later_took, leaf_refused, later_refused, leaf_stayed, later_stayed}
use Rattle.columnar_variants.proofs.dual.push_second.Goals as goal

pub push_case-requires-clause-column : goal.push_case-requires-clause-column
push_case-requires-clause-column g c = seconds_sound g.SC.Column.format g.TC.Column.format c.requires.sound

pub push_case-requires-clause-forms : goal.push_case-requires-clause-forms
push_case-requires-clause-forms g c = forms_sound g.SC.Column.format g.TC.Column.format c.requires.sound

pub push_case-requires-clause-told : goal.push_case-requires-clause-told
push_case-requires-clause-told g c = variants_number (dual_bank g.SC.Column.format g.TC.Column.format) (dual_law g.SC.Column.format g.TC.Column.format) c.requires.sound 1 (omega arith)

pub returns-clause-ok : goal.returns-clause-ok
returns-clause-ok g c = on_ok_weaker c.push_case.result (λ t. case_took (dual_bank g.SC.Column.format g.TC.Column.format) (dual_law g.SC.Column.format g.TC.Column.format) 1 (omega arith) c.requires.sound t (λ u. later_took g.SC.Column.format (leaf g.TC.Column.format) (leaf_took g.TC.Column.format u))) c.push_case.ensures.ok

pub returns-clause-err : goal.returns-clause-err
returns-clause-err g c = IfErr-weaker c.push_case.result _ _ (λ e t. case_refused (dual_bank g.SC.Column.format g.TC.Column.format) (dual_law g.SC.Column.format g.TC.Column.format) 1 c.requires.sound t (λ u. later_refused g.SC.Column.format (leaf g.TC.Column.format) (leaf_refused g.TC.Column.format u)) (λ u. later_stayed g.SC.Column.format (leaf g.TC.Column.format) (leaf_stayed g.TC.Column.format u))) c.push_case.ensures.err

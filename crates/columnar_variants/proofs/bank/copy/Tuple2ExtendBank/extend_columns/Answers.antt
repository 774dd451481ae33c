use Rattle.std.proofs.Common.{suc, arith}
use Rattle.std.specs.Prelude.{slice_index}
use Rattle.columnar_core.specs.Format.{both}
use Rattle.columnar_core.specs.ChangeLaws.{passed_on, undone}
use Rattle.columnar_variants.specs.Variants.{join}
use Rattle.columnar_variants.specs.VariantLaws.{beside_parts}
use Rattle.columnar_variants.specs.BankChangeLaws.{one_more}
use Rattle.columnar_variants.specs.BankCopyLaws.{join_copied_ends, first_denied_ends, later_denied_ends}
use Rattle.columnar_variants.proofs.bank.copy.Tuple2ExtendBank.extend_columns.Goals as goal

pub len-before-requires : goal.len-before-requires
len-before-requires g c = (beside_parts g.A.Column.format g.B.ColumnBank.bank.sides c.requires.sound).0

pub extend_from_self-requires-clause-sound : goal.extend_from_self-requires-clause-sound
extend_from_self-requires-clause-sound g c = (beside_parts g.A.Column.format g.B.ColumnBank.bank.sides c.requires.sound).0

pub extend_from_self-requires-clause-view_sound : goal.extend_from_self-requires-clause-view_sound
extend_from_self-requires-clause-view_sound g c = (beside_parts g.V.Column.format g.W.ColumnBank.bank.sides c.requires.view_sound).0

pub extend_from_self-requires-clause-ordered : goal.extend_from_self-requires-clause-ordered
extend_from_self-requires-clause-ordered g c = omega (arith, c.requires.ordered 0 (omega arith), c.first_of.ensures, c.first_of-2.ensures)

pub extend_from_self-requires-clause-in_range : goal.extend_from_self-requires-clause-in_range
extend_from_self-requires-clause-in_range g c = omega (arith, c.requires.in_range 0 (omega arith), c.first_of-2.ensures)

pub returns-in_err-extend_from_self-clause-err : goal.returns-in_err-extend_from_self-clause-err
returns-in_err-extend_from_self-clause-err g c = rw (passed_on c.from_residual.result c.from_residual.ensures.1) (first_denied_ends g.A.Column.format g.B.ColumnBank.bank ((join g.V.Column.format g.W.ColumnBank.bank).table (both (g.V.Column.content c.args.view.0) (g.W.ColumnBank.contents c.args.view.1))) (slice_index c.args.firsts.now) (slice_index c.args.lasts.now) (g.B.ColumnBank.contents c.args.self.now.1) c.first_of.ensures c.first_of-2.ensures c.in_err-extend_from_self.ensures.err)

pub extend_columns-requires-clause-sound : goal.extend_columns-requires-clause-sound
extend_columns-requires-clause-sound g c = (beside_parts g.A.Column.format g.B.ColumnBank.bank.sides c.requires.sound).1

pub extend_columns-requires-clause-view_sound : goal.extend_columns-requires-clause-view_sound
extend_columns-requires-clause-view_sound g c = (beside_parts g.V.Column.format g.W.ColumnBank.bank.sides c.requires.view_sound).1

pub extend_columns-requires-clause-ordered : goal.extend_columns-requires-clause-ordered
extend_columns-requires-clause-ordered g c = λ v l. rw (one_more (slice_index c.others_of.result.now) (slice_index c.args.firsts.now) c.others_of.ensures v, one_more (slice_index c.others_of-2.result.now) (slice_index c.args.lasts.now) c.others_of-2.ensures v) (c.requires.ordered (suc v) (omega arith))

pub extend_columns-requires-clause-in_range : goal.extend_columns-requires-clause-in_range
extend_columns-requires-clause-in_range g c = λ v l. rw (one_more (slice_index c.others_of-2.result.now) (slice_index c.args.lasts.now) c.others_of-2.ensures v) (c.requires.in_range (suc v) (omega arith))

pub returns-in-Ok-clause-ok : goal.returns-in-Ok-clause-ok
returns-in-Ok-clause-ok g c = join_copied_ends g.A.Column.format g.B.ColumnBank.bank ((join g.V.Column.format g.W.ColumnBank.bank).table (both (g.V.Column.content c.args.view.0) (g.W.ColumnBank.contents c.args.view.1))) (slice_index c.args.firsts.now) (slice_index c.args.lasts.now) (slice_index c.others_of.result.now) (slice_index c.others_of-2.result.now) c.first_of.ensures c.first_of-2.ensures c.others_of.ensures c.others_of-2.ensures c.in_ok-extend_from_self.ensures.ok c.in-Ok.ensures.ok

pub returns-in-Err-clause-err : goal.returns-in-Err-clause-err
returns-in-Err-clause-err g c = later_denied_ends g.A.Column.format g.B.ColumnBank.bank ((join g.V.Column.format g.W.ColumnBank.bank).table (both (g.V.Column.content c.args.view.0) (g.W.ColumnBank.contents c.args.view.1))) (slice_index c.args.firsts.now) (slice_index c.args.lasts.now) (slice_index c.others_of.result.now) (slice_index c.others_of-2.result.now) c.others_of.ensures c.others_of-2.ensures (undone g.met.A.Truncate.lawful (beside_parts g.A.Column.format g.B.ColumnBank.bank.sides c.requires.sound).0 c.in_ok-extend_from_self.ensures.ok.took.grew (rw c.len-before.ensures at c.truncate.ensures.cut)) c.in-Err.ensures.err

use Rattle.std.proofs.Common.{sym, ◌∙◌}
use Rattle.std.proofs.lemmas.Bool.{eq-eqb, ne_eqb}
use Rattle.columnar_core.specs.Faults.{fault_of}
use Rattle.columnar_core.specs.Format.{bytes_held}
use Rattle.columnar_core.specs.TwoPartsLaws.{representable_right, judged_part, judged_fine, judged_own}
use Rattle.columnar_sums.specs.OptionLaws.{options_two, options_turns, ranks_bytes}
use Rattle.columnar_sums.specs.RankColumns.{ranks_content}
use Rattle.columnar_base.specs.ChangeLaws.{passed_on}
use Rattle.columnar_sums.proofs.option.bytes.OptionsCheck.check_from_tallied.Goals as goal

pub check_two-requires-clause-right : goal.check_two-requires-clause-right
check_two-requires-clause-right g c = representable_right (options_two g.TC.Column.format) c.requires.representable

pub returns-in_err-check_two-clause-exact : goal.returns-in_err-check_two-clause-exact
returns-in_err-check_two-clause-exact g c = rw (passed_on c.from_residual.result c.from_residual.ensures.1) (judged_part (options_two g.TC.Column.format) (ranks_content g.CC.Words.bytes g.VC.Words.bytes g.WC.Words.bytes c.args.self.now.indexes) (g.TC.Column.content c.args.self.now.somes) c.args.from (fault_of c.in_err-check_two.field-0.0) c.in_err-check_two.ensures.exact)

pub returns-then-trues_tallied-values-clause-exact : goal.returns-then-trues_tallied-values-clause-exact
returns-then-trues_tallied-values-clause-exact g c = judged_fine (options_two g.TC.Column.format) (ranks_content g.CC.Words.bytes g.VC.Words.bytes g.WC.Words.bytes c.args.self.now.indexes) (g.TC.Column.content c.args.self.now.somes) c.args.from c.in_ok-check_two.ensures.exact (eq-eqb _ _ (sym c.trues_tallied.ensures.value ∙ (c.if-trues_tallied-values.true ∙ c.len-values.ensures)))

pub returns-then-trues_tallied-values-clause-turns : goal.returns-then-trues_tallied-values-clause-turns
returns-then-trues_tallied-values-clause-turns g c = options_turns _ _ _ g.TC.Column.format.turns (bytes_held (ranks_content g.CC.Words.bytes g.VC.Words.bytes g.WC.Words.bytes c.args.self.now.indexes)) (bytes_held (g.TC.Column.content c.args.self.now.somes)) c.in_ok-check_two.ensures.turns c.trues_tallied.ensures.turns g.met.TC.Stored.storable.swift (ranks_bytes (ranks_content g.CC.Words.bytes g.VC.Words.bytes g.WC.Words.bytes c.args.self.now.indexes) c.in_ok-check_two.ensures.left_sound)

pub returns-else-trues_tallied-values-clause-exact : goal.returns-else-trues_tallied-values-clause-exact
returns-else-trues_tallied-values-clause-exact g c = judged_own (options_two g.TC.Column.format) (ranks_content g.CC.Words.bytes g.VC.Words.bytes g.WC.Words.bytes c.args.self.now.indexes) (g.TC.Column.content c.args.self.now.somes) c.args.from c.in_ok-check_two.ensures.exact (ne_eqb _ _ (λ h. c.if-trues_tallied-values.false (c.trues_tallied.ensures.value ∙ (h ∙ sym c.len-values.ensures))))

pub returns-else-trues_tallied-values-clause-turns : goal.returns-else-trues_tallied-values-clause-turns
returns-else-trues_tallied-values-clause-turns g c = options_turns _ _ _ g.TC.Column.format.turns (bytes_held (ranks_content g.CC.Words.bytes g.VC.Words.bytes g.WC.Words.bytes c.args.self.now.indexes)) (bytes_held (g.TC.Column.content c.args.self.now.somes)) c.in_ok-check_two.ensures.turns c.trues_tallied.ensures.turns g.met.TC.Stored.storable.swift (ranks_bytes (ranks_content g.CC.Words.bytes g.VC.Words.bytes g.WC.Words.bytes c.args.self.now.indexes) c.in_ok-check_two.ensures.left_sound)

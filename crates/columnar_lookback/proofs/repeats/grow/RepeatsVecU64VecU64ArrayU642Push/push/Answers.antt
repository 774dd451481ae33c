use Rattle.std.proofs.Common.{◌≡◌, true, false, sym, ◌∙◌}
use Rattle.std.proofs.lemmas.Result.{on_ok_weaker, IfErr-weaker}
use Rattle.columnar_base.specs.Row.{none, some}
use Rattle.columnar_sums.specs.MarkedLaws.{on_ok_both}
use Rattle.columnar_sums.specs.OptionLaws.{options_took_some, options_refused_some}
use Rattle.columnar_lookback.specs.RepeatLaws.{repeats_options, repeats_values}
use Rattle.columnar_lookback.specs.RepeatChangeLaws.{values_pushed, repeats_took_none, repeats_took_value, repeats_refused_none, repeats_refused_value}
use Rattle.columnar_lookback.proofs.repeats.grow.RepeatsVecU64VecU64ArrayU642Push.push.Goals as goal

pub returns-then-is_repeated-clause-ok : goal.returns-then-is_repeated-clause-ok
returns-then-is_repeated-clause-ok g c = on_ok_weaker c.push.result (λ h. repeats_took_none g.TC.Column.format g.met.TC.Truncate.lawful c.requires.sound (sym c.is_repeated.ensures ∙ c.if-is_repeated.true) h) c.push.ensures.ok

pub returns-then-is_repeated-clause-err : goal.returns-then-is_repeated-clause-err
returns-then-is_repeated-clause-err g c = IfErr-weaker c.push.result _ _ (λ e h. repeats_refused_none g.TC.Column.format c.requires.sound h) c.push.ensures.err

pub push_marked-requires-clause-values : goal.push_marked-requires-clause-values
push_marked-requires-clause-values g c = repeats_values g.TC.Column.format c.requires.sound

pub returns-else-is_repeated-clause-ok : goal.returns-else-is_repeated-clause-ok
returns-else-is_repeated-clause-ok g c = on_ok_both c.push_marked.result (λ h k. repeats_took_value g.TC.Column.format g.met.TC.Truncate.lawful c.requires.sound (options_took_some g.TC.Column.format g.met.TC.Truncate.lawful.same (repeats_options g.TC.Column.format c.requires.sound) h k)) c.push_marked.ensures.value c.push_marked.ensures.bit

pub returns-else-is_repeated-clause-err : goal.returns-else-is_repeated-clause-err
returns-else-is_repeated-clause-err g c = IfErr-weaker c.push_marked.result _ _ (λ e h. repeats_refused_value g.TC.Column.format c.requires.sound (options_refused_some g.TC.Column.format (g.T.Item.meaning c.args.item) (repeats_options g.TC.Column.format c.requires.sound) h)) c.push_marked.ensures.err

pub returns-then-is_repeated-clause-stored : goal.returns-then-is_repeated-clause-stored
returns-then-is_repeated-clause-stored g c = let e = sym c.is_repeated.ensures ∙ c.if-is_repeated.true in on_ok_weaker c.push.result (λ h. rw e (values_pushed g.TC.Column.format none g.met.TC.Truncate.lawful (repeats_options g.TC.Column.format c.requires.sound) h)) c.push.ensures.ok

pub returns-else-is_repeated-clause-stored : goal.returns-else-is_repeated-clause-stored
returns-else-is_repeated-clause-stored g c = let e = sym c.is_repeated.ensures ∙ c.if-is_repeated.false in on_ok_both c.push_marked.result (λ h k. rw e (values_pushed g.TC.Column.format (some (g.T.Item.meaning c.args.item)) g.met.TC.Truncate.lawful (repeats_options g.TC.Column.format c.requires.sound) (options_took_some g.TC.Column.format g.met.TC.Truncate.lawful.same (repeats_options g.TC.Column.format c.requires.sound) h k))) c.push_marked.ensures.value c.push_marked.ensures.bit

pub returns-then-is_repeated-clause-value : goal.returns-then-is_repeated-clause-value
returns-then-is_repeated-clause-value g c = on_ok_weaker c.push.result (λ h f. absurd (apart (sym (sym c.is_repeated.ensures ∙ c.if-is_repeated.true) ∙ f))) c.push.ensures.ok
  where
    apart : true ≡ false → ⊥
    apart h = cc

pub returns-else-is_repeated-clause-value : goal.returns-else-is_repeated-clause-value
returns-else-is_repeated-clause-value g c = on_ok_weaker c.push_marked.result (λ h f. h) c.push_marked.ensures.value

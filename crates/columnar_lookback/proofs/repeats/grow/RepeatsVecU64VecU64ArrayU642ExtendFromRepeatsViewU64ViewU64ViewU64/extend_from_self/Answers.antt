use Rattle.std.proofs.Common.{◌+◌, ◌-◌, [], take, drop, sym, ◌∙◌, arith}
use Rattle.std.proofs.lemmas.Result.{on_ok_weaker, IfErr-weaker}
use Rattle.columnar_base.specs.Format.{both}
use Rattle.columnar_base.specs.ChangeLaws.{passed_on}
use Rattle.columnar_base.specs.WordViews.{view_bytes}
use Rattle.columnar_sums.specs.Options.{weave, options_format}
use Rattle.columnar_sums.specs.RankColumns.{ranks_bits, ranks_content, owned_ranks}
use Rattle.columnar_lookback.specs.Recall.{recall}
use Rattle.columnar_lookback.specs.RecallLaws.{length-recall}
use Rattle.columnar_lookback.specs.Repeats.{repeats_code, repeats_format, viewed_repeats}
use Rattle.columnar_lookback.specs.RepeatLaws.{repeats_options}
use Rattle.columnar_lookback.specs.RepeatChangeLaws.{values_stored, values_copied, values_counted, values_front, nothing_between, copied_nothing, repeats_copied_front, repeats_copied_rest, repeats_refused_range, repeats_refused_first, repeats_refused_rest, repeats_taken_back, repeats_nothing, repeats_something}
use Rattle.columnar_lookback.proofs.repeats.grow.RepeatsVecU64VecU64ArrayU642ExtendFromRepeatsViewU64ViewU64ViewU64.extend_from_self.Goals as goal
use Rattle.columnar_lookback.proofs.repeats.grow.RepeatsVecU64VecU64ArrayU642ExtendFromRepeatsViewU64ViewU64ViewU64.extend_from_self.Goals.{else-before-eq0-via-then-before-eq0+else-start-eq0, else-before-eq0-via-else-before-eq0}

pub returns-then-start-end-clause-ok : goal.returns-then-start-end-clause-ok
returns-then-start-end-clause-ok g c = copied_nothing c.args.range.start c.args.range.«end» (recall repeats_code [] (weave (ranks_bits (ranks_content view_bytes view_bytes view_bytes c.args.view.inner.indexes)) (g.V.Column.format.rows (g.V.Column.content c.args.view.inner.somes)))) c.requires.sound (omega (arith, c.if-start-end.true))

pub len-before-requires : goal.len-before-requires
len-before-requires g c = repeats_options g.TC.Column.format c.requires.sound

pub extend_from_self-requires-clause-view_sound : goal.extend_from_self-requires-clause-view_sound
extend_from_self-requires-clause-view_sound g c = repeats_options g.V.Column.format c.requires.view_sound

pub extend_from_self-requires-clause-in_range : goal.extend_from_self-requires-clause-in_range
extend_from_self-requires-clause-in_range g c = rw (← length-recall repeats_code [] (weave (ranks_bits (ranks_content view_bytes view_bytes view_bytes c.args.view.inner.indexes)) (g.V.Column.format.rows (g.V.Column.content c.args.view.inner.somes)))) c.requires.in_range

pub returns-then-start-eq0-clause-ok : goal.returns-then-start-eq0-clause-ok
returns-then-start-eq0-clause-ok g c = on_ok_weaker c.extend_from_self.result (λ h. repeats_copied_front g.TC.Column.format g.V.Column.format (ranks_content view_bytes view_bytes view_bytes c.args.view.inner.indexes) (g.V.Column.content c.args.view.inner.somes) c.args.range.start (c.args.range.«end» - c.args.range.start) g.met.TC.Truncate.lawful c.requires.sound c.requires.view_sound (repeats_nothing g.TC.Column.format (both (owned_ranks c.args.self.now.inner.indexes) (g.TC.Column.content c.args.self.now.inner.somes)) (sym c.len-before.ensures ∙ c.if-before-eq0.true)) c.if-start-eq0.true h) c.extend_from_self.ensures.ok

pub returns-then-start-eq0-clause-err : goal.returns-then-start-eq0-clause-err
returns-then-start-eq0-clause-err g c = IfErr-weaker c.extend_from_self.result _ _ (λ e h. repeats_refused_range g.TC.Column.format g.V.Column.format (ranks_content view_bytes view_bytes view_bytes c.args.view.inner.indexes) (g.V.Column.content c.args.view.inner.somes) c.args.range.start (c.args.range.«end» - c.args.range.start) c.requires.sound h) c.extend_from_self.ensures.err

pub returns-in_err-push-clause-err : goal.returns-in_err-push-clause-err
returns-in_err-push-clause-err g c = rw (passed_on c.from_residual.result c.from_residual.ensures.1) (repeats_refused_first g.TC.Column.format (recall repeats_code [] (weave (ranks_bits (ranks_content view_bytes view_bytes view_bytes c.args.view.inner.indexes)) (g.V.Column.format.rows (g.V.Column.content c.args.view.inner.somes)))) c.args.range.start c.args.range.«end» _ g.met.TC.Truncate.lawful (omega (arith, c.if-start-end.false)) c.get.ensures.row c.in_err-push.ensures.err)

pub extend_from_self-requires-2-clause-sound : goal.extend_from_self-requires-2-clause-sound
extend_from_self-requires-2-clause-sound g c = repeats_options g.TC.Column.format c.in_ok-push.ensures.ok.grew.sound

pub extend_from_self-requires-2-clause-view_sound : goal.extend_from_self-requires-2-clause-view_sound
extend_from_self-requires-2-clause-view_sound g c = repeats_options g.V.Column.format c.requires.view_sound

pub extend_from_self-requires-2-clause-in_range : goal.extend_from_self-requires-2-clause-in_range
extend_from_self-requires-2-clause-in_range g c = rw (← length-recall repeats_code [] (weave (ranks_bits (ranks_content view_bytes view_bytes view_bytes c.args.view.inner.indexes)) (g.V.Column.format.rows (g.V.Column.content c.args.view.inner.somes)))) c.requires.in_range

pub taken_back-requires-clause-sound : goal.taken_back-requires-clause-sound
taken_back-requires-clause-sound g c = (repeats_taken_back g.TC.Column.format _ c.requires.sound c.in_ok-push.ensures.ok c.in-Err.ensures.err).0

pub taken_back-requires-clause-in_range : goal.taken_back-requires-clause-in_range
taken_back-requires-clause-in_range g c = rw c.len-before.ensures (repeats_taken_back g.TC.Column.format _ c.requires.sound c.in_ok-push.ensures.ok c.in-Err.ensures.err).1

pub returns-in-Ok-clause-ok : goal.returns-in-Ok-clause-ok
returns-in-Ok-clause-ok g c = repeats_copied_rest g.TC.Column.format g.V.Column.format (ranks_content view_bytes view_bytes view_bytes c.args.view.inner.indexes) (g.V.Column.content c.args.view.inner.somes) c.args.range.start c.args.range.«end» _ g.met.TC.Truncate.lawful (omega (arith, c.if-start-end.false)) c.requires.in_range c.get.ensures.row (λ p q. elim c.else-before-eq0.branch [ else-before-eq0-via-then-before-eq0+else-start-eq0 w ↦ w.if-start-eq0.false q | else-before-eq0-via-else-before-eq0 w ↦ w.if-before-eq0.false (c.len-before.ensures ∙ repeats_something g.TC.Column.format (both (owned_ranks c.args.self.now.inner.indexes) (g.TC.Column.content c.args.self.now.inner.somes)) p) ]) c.in_ok-push.ensures.ok c.in-Ok.ensures.ok

pub returns-in-Err-clause-err : goal.returns-in-Err-clause-err
returns-in-Err-clause-err g c = rw c.taken_back.ensures.error (repeats_refused_rest g.TC.Column.format g.V.Column.format (ranks_content view_bytes view_bytes view_bytes c.args.view.inner.indexes) (g.V.Column.content c.args.view.inner.somes) c.args.range.start c.args.range.«end» _ g.met.TC.Truncate.lawful (omega (arith, c.if-start-end.false)) c.get.ensures.row c.requires.sound c.in_ok-push.ensures.ok c.in-Err.ensures.err (rw (c.len-before.ensures, ← length-recall repeats_code [] _) at c.taken_back.ensures.cut))

pub returns-then-start-end-clause-stored : goal.returns-then-start-end-clause-stored
returns-then-start-end-clause-stored g c = omega arith

pub returns-then-start-eq0-clause-stored : goal.returns-then-start-eq0-clause-stored
returns-then-start-eq0-clause-stored g c = on_ok_weaker c.extend_from_self.result (λ h. let e = values_stored g.TC.Column.format (take (c.args.range.«end» - c.args.range.start) (drop c.args.range.start ((options_format g.V.Column.format).rows (viewed_repeats g.V.Column.content c.args.view.inner)))) g.met.TC.Truncate.lawful (repeats_options g.TC.Column.format c.requires.sound) h.took in omega (arith, e)) c.extend_from_self.ensures.ok

pub returns-in-Ok-clause-stored : goal.returns-in-Ok-clause-stored
returns-in-Ok-clause-stored g c =
    let us = (options_format g.V.Column.format).rows (viewed_repeats g.V.Column.content c.args.view.inner) in
    let e = values_stored g.TC.Column.format (take (c.args.range.«end» - (c.args.range.start + 1)) (drop (c.args.range.start + 1) us)) g.met.TC.Truncate.lawful (repeats_options g.TC.Column.format c.in_ok-push.ensures.ok.grew.sound) c.in-Ok.ensures.ok.took in
    values_copied us c.args.range.start c.args.range.«end» _ _ _ _ (omega (arith, c.if-start-end.false)) c.in_ok-push.ensures.stored e

pub returns-then-start-end-clause-counted : goal.returns-then-start-end-clause-counted
returns-then-start-end-clause-counted g c = λ r l h f. absurd (omega (arith, l, c.if-start-end.true))

pub returns-then-start-end-clause-front : goal.returns-then-start-end-clause-front
returns-then-start-end-clause-front g c = λ p z. nothing_between g.TC.Column.format _ c.requires.sound ((options_format g.V.Column.format).rows (viewed_repeats g.V.Column.content c.args.view.inner)) c.args.range.«end» p (omega (arith, z, c.if-start-end.true))

pub returns-then-start-eq0-clause-counted : goal.returns-then-start-eq0-clause-counted
returns-then-start-eq0-clause-counted g c = on_ok_weaker c.extend_from_self.result (λ h r l k f. absurd (f (repeats_nothing g.TC.Column.format (both (owned_ranks c.args.self.now.inner.indexes) (g.TC.Column.content c.args.self.now.inner.somes)) (sym c.len-before.ensures ∙ c.if-before-eq0.true)) c.if-start-eq0.true)) c.extend_from_self.ensures.ok

pub returns-then-start-eq0-clause-front : goal.returns-then-start-eq0-clause-front
returns-then-start-eq0-clause-front g c = on_ok_weaker c.extend_from_self.result (λ h p z. values_front g.TC.Column.format ((options_format g.V.Column.format).rows (viewed_repeats g.V.Column.content c.args.view.inner)) c.args.range.start c.args.range.«end» g.met.TC.Truncate.lawful c.requires.sound p z h.took) c.extend_from_self.ensures.ok

pub returns-in-Ok-clause-counted : goal.returns-in-Ok-clause-counted
returns-in-Ok-clause-counted g c = λ r l h f.
    let us = (options_format g.V.Column.format).rows (viewed_repeats g.V.Column.content c.args.view.inner) in
    let e = values_stored g.TC.Column.format (take (c.args.range.«end» - (c.args.range.start + 1)) (drop (c.args.range.start + 1) us)) g.met.TC.Truncate.lawful (repeats_options g.TC.Column.format c.in_ok-push.ensures.ok.grew.sound) c.in-Ok.ensures.ok.took in
    values_counted g.TC.Column.format.kin ((repeats_format g.TC.Column.format).rows (both (owned_ranks c.args.self.now.inner.indexes) (g.TC.Column.content c.args.self.now.inner.somes))) _ r _ _ _ _ (sym c.get.ensures.row ∙ h) c.in_ok-push.ensures.stored e

pub returns-in-Ok-clause-front : goal.returns-in-Ok-clause-front
returns-in-Ok-clause-front g c = λ p q. absurd (elim c.else-before-eq0.branch [ else-before-eq0-via-then-before-eq0+else-start-eq0 w ↦ w.if-start-eq0.false q | else-before-eq0-via-else-before-eq0 w ↦ w.if-before-eq0.false (c.len-before.ensures ∙ repeats_something g.TC.Column.format (both (owned_ranks c.args.self.now.inner.indexes) (g.TC.Column.content c.args.self.now.inner.somes)) p) ])

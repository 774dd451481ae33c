use Rattle.std.proofs.Common.{rules, ◌≡◌, ◌-◌, [], ◌∷◌, length, sym, ap, ◌∙◌, arith}
use Rattle.std.specs.Int.{to_le_bytes, w8}
use Rattle.std.proofs.lemmas.Result.{on_ok_weaker, IfErr-weaker}
use Rattle.columnar_base.specs.ChangeLaws.{took_more}
use Rattle.columnar_base.specs.Elements.{elements, bytes_format}
use Rattle.columnar_base.specs.ElementLaws.{elements_lawful}
use Rattle.columnar_base.specs.Numbers.{unsigned_row_of}
use Rattle.columnar_base.specs.WordViews.{view_bytes}
use Rattle.columnar_sums.specs.RankColumns.{ranks_bits, ranks_content}
use Rattle.columnar_sums.specs.Results.{weave_results}
use Rattle.columnar_lookback.specs.Recall.{recall}
use Rattle.columnar_lookback.specs.RecallLaws.{length-recall, recall_nothing, took_no_row, copied_rows, refused_rows, rows_kept}
use Rattle.columnar_lookback.specs.Lookbacks.{lookbacks_code, owned_lookbacks}
use Rattle.columnar_lookback.specs.KeptLaws.{kept_none, kept_step, kept_front}
use Rattle.columnar_lookback.specs.LookbackLaws.{elements_plain, lookbacks_lawful, lookbacks_results, lookbacks_copied_front, lookbacks_refused_range}
use Rattle.columnar_lookback.proofs.lookbacks.grow.LookbacksVecU8VecU64VecU64ArrayU642ExtendFromLookbacksRefSliceU8ViewU64ViewU64ViewU64.extend_from_self.Goals as goal
use Rattle.columnar_lookback.proofs.lookbacks.grow.LookbacksVecU8VecU64VecU64ArrayU642ExtendFromLookbacksRefSliceU8ViewU64ViewU64ViewU64.extend_from_self.Goals.{else-before-eq0-via-then-before-eq0+else-start-eq0, else-before-eq0-via-else-before-eq0}

pub len-before-requires : goal.len-before-requires
len-before-requires g c = lookbacks_results g.TC.Column.format bytes_format c.requires.sound

pub extend_from_self-requires-clause-view_sound : goal.extend_from_self-requires-clause-view_sound
extend_from_self-requires-clause-view_sound g c = lookbacks_results g.V.Column.format bytes_format c.requires.view_sound

pub extend_from_self-requires-clause-in_range : goal.extend_from_self-requires-clause-in_range
extend_from_self-requires-clause-in_range g c = rw (← length-recall lookbacks_code [] (weave_results (ranks_bits (ranks_content view_bytes view_bytes view_bytes c.args.view.inner.indexes)) (g.V.Column.format.rows (g.V.Column.content c.args.view.inner.oks)) (bytes_format.rows (elements (to_le_bytes w8) c.args.view.inner.errs.now)))) c.requires.in_range

pub returns-then-start-eq0-clause-ok : goal.returns-then-start-eq0-clause-ok
returns-then-start-eq0-clause-ok g c = on_ok_weaker c.extend_from_self.result (λ h. lookbacks_copied_front g.TC.Column.format bytes_format g.V.Column.format bytes_format (ranks_content view_bytes view_bytes view_bytes c.args.view.inner.indexes) (g.V.Column.content c.args.view.inner.oks) (elements (to_le_bytes w8) c.args.view.inner.errs.now) c.args.range.start (c.args.range.«end» - c.args.range.start) g.met.TC.Truncate.lawful (elements_plain 1 1 (unsigned_row_of w8)) c.requires.sound c.requires.view_sound (recall_nothing lookbacks_code _ (sym c.len-before.ensures ∙ c.if-before-eq0.true)) c.if-start-eq0.true h) c.extend_from_self.ensures.ok

pub returns-then-start-eq0-clause-err : goal.returns-then-start-eq0-clause-err
returns-then-start-eq0-clause-err g c = IfErr-weaker c.extend_from_self.result _ _ (λ e h. lookbacks_refused_range g.TC.Column.format bytes_format g.V.Column.format bytes_format (ranks_content view_bytes view_bytes view_bytes c.args.view.inner.indexes) (g.V.Column.content c.args.view.inner.oks) (elements (to_le_bytes w8) c.args.view.inner.errs.now) c.args.range.start (c.args.range.«end» - c.args.range.start) (elements_plain 1 1 (unsigned_row_of w8)) c.requires.sound h) c.extend_from_self.ensures.err

pub push-requires : goal.push-requires
push-requires g c = (search rules, (c.loop-i.invariant.took.grew.sound, c.get.ensures.valid))

pub taken_back-requires-clause-in_range : goal.taken_back-requires-clause-in_range
taken_back-requires-clause-in_range g c = rw (c.len-before.ensures, ← length-recall lookbacks_code [] _) (rows_kept _ _ c.loop-i.invariant.took c.in-Err.ensures.err)

pub returns-in-Err-clause-err : goal.returns-in-Err-clause-err
returns-in-Err-clause-err g c = rw c.taken_back.ensures.error (refused_rows (recall lookbacks_code [] (weave_results (ranks_bits (ranks_content view_bytes view_bytes view_bytes c.args.view.inner.indexes)) (g.V.Column.format.rows (g.V.Column.content c.args.view.inner.oks)) (bytes_format.rows (elements (to_le_bytes w8) c.args.view.inner.errs.now)))) c.args.range.start c.loop-i.i c.args.range.«end» _ (lookbacks_lawful g.TC.Column.format bytes_format g.met.TC.Truncate.lawful (elements_lawful 1 1 (unsigned_row_of w8))) c.requires.sound (omega (arith)) (omega (arith, c.loop-i-test.true)) c.get.ensures.row c.loop-i.invariant.took c.in-Err.ensures.err (rw (c.len-before.ensures, ← length-recall lookbacks_code [] _) at c.taken_back.ensures.cut))

pub returns-clause-ok : goal.returns-clause-ok
returns-clause-ok g c = copied_rows (recall lookbacks_code [] (weave_results (ranks_bits (ranks_content view_bytes view_bytes view_bytes c.args.view.inner.indexes)) (g.V.Column.format.rows (g.V.Column.content c.args.view.inner.oks)) (bytes_format.rows (elements (to_le_bytes w8) c.args.view.inner.errs.now)))) c.args.range.start c.loop-i.i c.args.range.«end» c.loop-i.invariant.took (omega (arith, c.loop-i-test.false)) (λ p q. elim c.else-before-eq0.branch [ else-before-eq0-via-then-before-eq0+else-start-eq0 w ↦ w.if-start-eq0.false q | else-before-eq0-via-else-before-eq0 w ↦ w.if-before-eq0.false (c.len-before.ensures ∙ (sym (length-recall lookbacks_code [] _) ∙ ap length p)) ])

pub loop-i-init : goal.loop-i-init
loop-i-init g c = record {
  took = took_no_row (recall lookbacks_code [] (weave_results (ranks_bits (ranks_content view_bytes view_bytes view_bytes c.args.view.inner.indexes)) (g.V.Column.format.rows (g.V.Column.content c.args.view.inner.oks)) (bytes_format.rows (elements (to_le_bytes w8) c.args.view.inner.errs.now)))) c.args.range.start c.requires.sound;
  kept = kept_none g.TC.Column.format g.row.N (owned_lookbacks g.TC.Column.content c.args.self.now.inner) (recall lookbacks_code [] (weave_results (ranks_bits (ranks_content view_bytes view_bytes view_bytes c.args.view.inner.indexes)) (g.V.Column.format.rows (g.V.Column.content c.args.view.inner.oks)) (bytes_format.rows (elements (to_le_bytes w8) c.args.view.inner.errs.now)))) c.args.range.start;
}

pub loop-i-preserved : goal.loop-i-preserved
loop-i-preserved g c = record {
  took = took_more (recall lookbacks_code [] (weave_results (ranks_bits (ranks_content view_bytes view_bytes view_bytes c.args.view.inner.indexes)) (g.V.Column.format.rows (g.V.Column.content c.args.view.inner.oks)) (bytes_format.rows (elements (to_le_bytes w8) c.args.view.inner.errs.now)))) c.args.range.start c.loop-i.i _ c.loop-i.auto.i c.get.ensures.row c.loop-i.invariant.took c.in_default.ensures.ok;
  kept = kept_step g.TC.Column.format g.row.N (recall lookbacks_code [] (weave_results (ranks_bits (ranks_content view_bytes view_bytes view_bytes c.args.view.inner.indexes)) (g.V.Column.format.rows (g.V.Column.content c.args.view.inner.oks)) (bytes_format.rows (elements (to_le_bytes w8) c.args.view.inner.errs.now)))) c.args.range.start c.loop-i.i _ g.met.TC.Truncate.lawful.kindred c.loop-i.auto.i c.get.ensures.row c.loop-i.invariant.took c.in_default.ensures.ok c.loop-i.invariant.kept (search rules);
}

pub returns-clause-kept : goal.returns-clause-kept
returns-clause-kept g c = λ f. let e : c.loop-i.i ≡ c.args.range.«end» = omega (arith, c.loop-i-test.false) in rw (← e) c.loop-i.invariant.kept

pub returns-clause-front : goal.returns-clause-front
returns-clause-front g c = λ p q. absurd (elim c.else-before-eq0.branch [ else-before-eq0-via-then-before-eq0+else-start-eq0 w ↦ w.if-start-eq0.false q | else-before-eq0-via-else-before-eq0 w ↦ w.if-before-eq0.false (c.len-before.ensures ∙ (sym (length-recall lookbacks_code [] _) ∙ ap length p)) ])

pub returns-then-start-eq0-clause-kept : goal.returns-then-start-eq0-clause-kept
returns-then-start-eq0-clause-kept g c = on_ok_weaker c.extend_from_self.result (λ h f. absurd (f (recall_nothing lookbacks_code _ (sym c.len-before.ensures ∙ c.if-before-eq0.true)) c.if-start-eq0.true)) c.extend_from_self.ensures.ok

pub returns-then-start-eq0-clause-front : goal.returns-then-start-eq0-clause-front
returns-then-start-eq0-clause-front g c = on_ok_weaker c.extend_from_self.result (λ h p q. kept_front g.TC.Column.format g.V.Column.format c.args.range.start (c.args.range.«end» - c.args.range.start) _ p q h) c.extend_from_self.ensures.ok

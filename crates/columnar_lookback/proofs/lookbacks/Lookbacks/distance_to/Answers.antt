use Rattle.std.proofs.Common.{◌-◌, [], sym, ◌∙◌, arith}
use Rattle.columnar_base.specs.ChangeLaws.{slice_get_some}
use Rattle.columnar_sums.specs.RankColumns.{ranks_bits, ranks_content}
use Rattle.columnar_sums.specs.Results.{weave_results}
use Rattle.columnar_lookback.specs.Recall.{latest}
use Rattle.columnar_lookback.specs.Lookbacks.{lookbacks_code}
use Rattle.columnar_lookback.specs.LookbackLaws.{lookbacks_values, value_before, values_count, none_more, nearest_is, nearest_not}
use Rattle.columnar_lookback.proofs.lookbacks.Lookbacks.distance_to.Goals as goal

pub len-values-requires : goal.len-values-requires
len-values-requires g c = lookbacks_values g.TC.Column.format g.VC.Column.format c.requires.sound

pub same-requires-clause-sound : goal.same-requires-clause-sound
same-requires-clause-sound g c = lookbacks_values g.TC.Column.format g.VC.Column.format c.requires.sound

pub returns-then-same : goal.returns-then-same
returns-then-same g c =
    let vs = latest lookbacks_code [] (weave_results (ranks_bits (ranks_content g.CC.Words.bytes g.RC.Words.bytes g.WC.Words.bytes c.args.self.now.inner.indexes)) (g.TC.Column.format.rows (g.TC.Column.content c.args.self.now.inner.oks)) (g.VC.Column.format.rows (g.VC.Column.content c.args.self.now.inner.errs))) in
    let back = c.loop-back.back in
    let i = c.len-values.result - 1 - back in
    let v = slice_get_some (g.TC.Column.format.rows (g.TC.Column.content c.args.self.now.inner.oks)) i (omega (arith, c.len-values.ensures, c.loop-back-test.true, c.min-most.ensures)) in
    let n = values_count g.TC.Column.format g.VC.Column.format c.requires.sound in
    let e = value_before g.TC.Column.format g.VC.Column.format i back v.0 c.requires.sound v.1 (omega (arith, c.len-values.ensures, c.loop-back-test.true, c.min-most.ensures)) in
    sym (nearest_is g.TC.Column.format.kin g.row.N vs (g.T.Item.meaning c.args.item.now) back c.loop-back.invariant (omega (arith, c.len-values.ensures, c.loop-back-test.true, c.min-most.ensures)) (omega (arith, c.len-values.ensures, c.loop-back-test.true, c.min-most.ensures, n)) (rw e (sym (c.same.ensures v.0 v.1) ∙ c.if-same.true)))

pub returns : goal.returns
returns g c =
    let vs = latest lookbacks_code [] (weave_results (ranks_bits (ranks_content g.CC.Words.bytes g.RC.Words.bytes g.WC.Words.bytes c.args.self.now.inner.indexes)) (g.TC.Column.format.rows (g.TC.Column.content c.args.self.now.inner.oks)) (g.VC.Column.format.rows (g.VC.Column.content c.args.self.now.inner.errs))) in
    let n = values_count g.TC.Column.format g.VC.Column.format c.requires.sound in
    sym (nearest_not g.TC.Column.format.kin g.row.N vs (g.T.Item.meaning c.args.item.now) c.loop-back.back c.loop-back.invariant (omega (arith, n, c.len-values.ensures, c.min-most.ensures, c.loop-back-test.false)))

pub loop-back-preserved : goal.loop-back-preserved
loop-back-preserved g c =
    let vs = latest lookbacks_code [] (weave_results (ranks_bits (ranks_content g.CC.Words.bytes g.RC.Words.bytes g.WC.Words.bytes c.args.self.now.inner.indexes)) (g.TC.Column.format.rows (g.TC.Column.content c.args.self.now.inner.oks)) (g.VC.Column.format.rows (g.VC.Column.content c.args.self.now.inner.errs))) in
    let back = c.loop-back.back in
    let i = c.len-values.result - 1 - back in
    let v = slice_get_some (g.TC.Column.format.rows (g.TC.Column.content c.args.self.now.inner.oks)) i (omega (arith, c.len-values.ensures, c.loop-back-test.true, c.min-most.ensures)) in
    let e = value_before g.TC.Column.format g.VC.Column.format i back v.0 c.requires.sound v.1 (omega (arith, c.len-values.ensures, c.loop-back-test.true, c.min-most.ensures)) in
    none_more g.TC.Column.format.kin vs (g.T.Item.meaning c.args.item.now) back c.loop-back.invariant (rw e (sym (c.same.ensures v.0 v.1) ∙ c.if-same.false))

use Rattle.std.proofs.Common.{◌≡◌, ◌-◌, ◌<◌, arith}
use Rattle.columnar_core.specs.AlikeLaws.{row_eq_exact}
use Rattle.columnar_core.specs.ChangeLaws.{took_none, took_more, refused_more, undone, grew_stayed}
use Rattle.columnar_core.specs.Elements.{word_row}
use Rattle.columnar_core.specs.WordViews.{view_bytes}
use Rattle.columnar_sums.specs.RankColumns.{ranks_format}
use Rattle.columnar_sums.specs.RankLaws.{ranks_lawful}
use Rattle.columnar_sums.specs.UnaryLaws.{unary_lawful}
use Rattle.columnar_sums.specs.UnaryChangeLaws.{copied_exactly, range_rises, range_refuses}
use Rattle.columnar_sums.specs.UnaryColumns.{unaries_format, unaries_content, owned_unaries}
use Rattle.columnar_core.specs.RoomLaws.{leaves_none, leaves_next, full_next}
use Rattle.columnar_sums.proofs.unaries.grow.OwnedExtendFromViewed.extend_from_self.Goals as goal

pub loop-i-init : goal.loop-i-init
loop-i-init c =
    let e : c.args.range.start - c.args.range.start ≡ 0 = omega arith in
    record { took = rw e (took_none c.requires.sound); left = rw e leaves_none }

pub loop-i-preserved : goal.loop-i-preserved
loop-i-preserved c =
    let rs = unaries_format.rows (unaries_content view_bytes view_bytes view_bytes c.args.view) in
    record {
      took = took_more rs c.args.range.start c.loop-i.i (word_row c.get.result) c.loop-i.auto.i c.get.ensures.row c.loop-i.invariant.took c.in-Ok.ensures.ok;
      left = leaves_next rs c.args.range.start c.loop-i.i (word_row c.get.result) c.loop-i.auto.i c.get.ensures.row c.loop-i.invariant.left c.in-Ok.ensures.left;
    }

pub returns-in-Err-clause-err : goal.returns-in-Err-clause-err
returns-in-Err-clause-err c =
    refused_more (unaries_format.rows (unaries_content view_bytes view_bytes view_bytes c.args.view)) c.args.range.start c.loop-i.i c.args.range.«end» (word_row c.get.result) (unary_lawful ranks_format ranks_lawful) c.loop-i.auto.i c.loop-i-test.true c.get.ensures.row c.loop-i.invariant.took c.in-Err.ensures.err.cause
    (undone {mid = owned_unaries c.push.new.self} (unary_lawful ranks_format ranks_lawful) c.requires.sound (grew_stayed {z = owned_unaries c.push.new.self} c.loop-i.invariant.took.grew c.in-Err.ensures.err.stayed) (rw c.len-before.ensures at c.truncate.ensures.cut))

pub returns-clause-ok : goal.returns-clause-ok
returns-clause-ok c =
    let e : c.loop-i.i ≡ c.args.range.«end» = omega (arith, c.requires.ordered, c.loop-i.auto.i-end c.requires.ordered) in
    copied_exactly unaries_format c.args.range.start row_eq_exact (rw e at c.loop-i.invariant.took)

pub returns-in-Err-clause-offset : goal.returns-in-Err-clause-offset
returns-in-Err-clause-offset c = λ n l h b.
    range_refuses {x = owned_unaries c.args.self.now} {y = owned_unaries c.loop-i.self} (unaries_format.rows (unaries_content view_bytes view_bytes view_bytes c.args.view)) c.args.range.start c.loop-i.i n c.get.result _ c.loop-i.invariant.took c.loop-i.auto.i h b c.get.ensures.row (omega arith) c.in-Err.ensures.offset

pub returns-clause-offset : goal.returns-clause-offset
returns-clause-offset c = λ n l h b.
    let i : c.args.range.start < c.loop-i.i = omega (arith, l, c.loop-i-test.false) in
    let w = range_rises {x = owned_unaries c.args.self.now} {y = owned_unaries c.loop-i.self} (unaries_format.rows (unaries_content view_bytes view_bytes view_bytes c.args.view)) c.args.range.start c.loop-i.i n c.loop-i.invariant.took i h in
    absurd (omega (arith, w, b))

pub returns-clause-left : goal.returns-clause-left
returns-clause-left c =
    let e : c.loop-i.i ≡ c.args.range.«end» = omega (arith, c.requires.ordered, c.loop-i.auto.i-end c.requires.ordered) in
    rw e at c.loop-i.invariant.left

pub returns-in-Err-clause-wanted : goal.returns-in-Err-clause-wanted
returns-in-Err-clause-wanted c = full_next (unaries_format.rows (unaries_content view_bytes view_bytes view_bytes c.args.view)) c.args.range.start c.loop-i.i c.args.range.«end» (word_row c.get.result) c.loop-i.auto.i c.loop-i-test.true c.get.ensures.row c.loop-i.invariant.left c.in-Err.ensures.wanted

use Rattle.std.proofs.Common.{arith, rules, ◌≡◌, ◌+◌, ◌-◌, ◌/◌, true, false, sym, ◌∙◌}
use Rattle.columnar_base.specs.DigitLaws.{digits_half}
use Rattle.columnar_operators.specs.SearchLaws.{answers_next}
use Rattle.columnar_operators.specs.SearchLaws.{narrowed_up, narrowed_down}
use Rattle.columnar_operators.proofs.search.partition_point_tallied.Goals as goal

pub loop-start-preserved-then-pred : goal.loop-start-preserved-then-pred
loop-start-preserved-then-pred g c =
    let rows = g.S.Column.format.rows (g.S.Column.content c.args.column.now) in
    let t : c.pred.result ≡ true = search rules in
    record {
      ordered = omega arith;
      within = omega arith;
      turns = let half = digits_half (c.loop-start.«end» - (c.loop-start.start + (c.loop-start.«end» - c.loop-start.start) / 2 + 1)) (c.loop-start.«end» - c.loop-start.start) (omega arith) (omega arith) (omega arith) in omega (arith, c.loop-start.invariant.turns, c.tick.ensures);
      narrowed = λ p h.
          let i = c.loop-start.invariant.narrowed p h in
          let n = answers_next g.P.FnMut _ _ _ _ _ c.pred.ensures i.0 in
          (n.1, λ first. narrowed_up p rows c.loop-start.start c.loop-start.«end» (c.loop-start.start + (c.loop-start.«end» - c.loop-start.start) / 2) (g.S.Ref.Item.meaning c.get.result) (omega arith) c.get.ensures.row (sym n.0 ∙ t) first (i.1 first));
    }

pub loop-start-preserved : goal.loop-start-preserved
loop-start-preserved g c =
    let rows = g.S.Column.format.rows (g.S.Column.content c.args.column.now) in
    let t : c.pred.result ≡ false = search rules in
    record {
      ordered = omega arith;
      within = omega arith;
      turns = let half = digits_half (c.loop-start.start + (c.loop-start.«end» - c.loop-start.start) / 2 - c.loop-start.start) (c.loop-start.«end» - c.loop-start.start) (omega arith) (omega arith) (omega arith) in omega (arith, c.loop-start.invariant.turns, c.tick.ensures);
      narrowed = λ p h.
          let i = c.loop-start.invariant.narrowed p h in
          let n = answers_next g.P.FnMut _ _ _ _ _ c.pred.ensures i.0 in
          (n.1, λ first. narrowed_down p rows c.loop-start.start c.loop-start.«end» (c.loop-start.start + (c.loop-start.«end» - c.loop-start.start) / 2) (g.S.Ref.Item.meaning c.get.result) (omega arith) c.get.ensures.row (sym n.0 ∙ t) first (i.1 first));
    }

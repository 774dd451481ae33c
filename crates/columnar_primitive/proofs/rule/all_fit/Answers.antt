use Rattle.std.proofs.Common.{sym, ◌∙◌, arith}
use Rattle.columnar_primitive.specs.MappedLaws.{fail_get, pass_more}
use Rattle.columnar_primitive.proofs.rule.all_fit.Goals as goal

pub returns-then-not-fits-clause-value : goal.returns-then-not-fits-clause-value
returns-then-not-fits-clause-value g c = sym (fail_get g.T.Rule.is_code c.loop-i.i (g.CV.Column.format.rows (g.CV.Column.content c.args.values.now)) (g.T.Code.Item.meaning c.get.result) c.get.ensures.row (sym c.fits.ensures ∙ c.if-not-fits.true))

pub loop-i-preserved : goal.loop-i-preserved
loop-i-preserved g c = record {
  pass = pass_more g.T.Rule.is_code c.loop-i.i (g.CV.Column.format.rows (g.CV.Column.content c.args.values.now)) (g.T.Code.Item.meaning c.get.result) c.get.ensures.row (sym c.fits.ensures ∙ c.if-not-fits.false) c.loop-i.invariant.pass;
  turns = omega (arith, c.loop-i.invariant.turns, c.tick.ensures.turns);
}

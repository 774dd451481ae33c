use Rattle.std.proofs.Common.{sym, ◌∙◌, arith, drop}
use Rattle.columnar_core.specs.Store.{slices_in}
use Rattle.columnar_primitive.specs.MappedLaws.{fail_get, pass_more}
use Rattle.columnar_primitive.proofs.rule.all_fit_in.Goals as goal

pub returns-then-not-fits-clause-value : goal.returns-then-not-fits-clause-value
returns-then-not-fits-clause-value g c = sym (fail_get g.T.Rule.is_code c.loop-i.i (g.CV.Column.format.rows (g.CV.Column.format.build (drop c.args.offset (slices_in c.args.store.now)))) (g.T.Code.Item.meaning c.row_in.result) c.row_in.ensures.row (sym c.fits.ensures ∙ c.if-not-fits.true))

pub loop-i-preserved : goal.loop-i-preserved
loop-i-preserved g c = record {
  pass = pass_more g.T.Rule.is_code c.loop-i.i (g.CV.Column.format.rows (g.CV.Column.format.build (drop c.args.offset (slices_in c.args.store.now)))) (g.T.Code.Item.meaning c.row_in.result) c.row_in.ensures.row (sym c.fits.ensures ∙ c.if-not-fits.false) c.loop-i.invariant.pass;
  turns = omega (arith, c.loop-i.invariant.turns, c.tick.ensures.turns);
}

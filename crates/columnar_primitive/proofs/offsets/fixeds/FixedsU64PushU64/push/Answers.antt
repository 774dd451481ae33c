use Rattle.columnar_base.specs.ChangeLaws.{passed_on}
use Rattle.std.proofs.Common.{[], ◌*◌, ◌∙◌, ap, sym, arith}
use Rattle.columnar_primitive.specs.FixedLaws.{fixed_pushed, fixed_refused}
use Rattle.columnar_primitive.proofs.offsets.fixeds.FixedsU64PushU64.push.Goals as goal

pub returns-clause-ok : goal.returns-clause-ok
returns-clause-ok g c = fixed_pushed g.row.K c.args.self.now.count c.in_ok-self.field-0 c.args.item (omega arith) (omega arith) c.in_ok-self.ensures.ok.0 (c.in_ok-self.ensures.ok.1 ∙ ap (λ i. g.row.K * i) (sym c.in_ok-self.ensures.ok.0)) (omega arith)

pub returns-in_err-self-clause-err : goal.returns-in_err-self-clause-err
returns-in_err-self-clause-err g c = rw (passed_on c.from_residual.result c.from_residual.ensures.1) (fixed_refused g.row.K c.args.self.now.count c.args.item [] c.in_err-self.field-0.0 (omega arith) (omega arith) c.requires.sound (c.in_err-self.ensures.err [] (omega arith)))

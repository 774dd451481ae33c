use Rattle.std.proofs.lemmas.Result.{on_ok_weaker}
use Rattle.columnar_primitive.specs.UnitLaws.{number_took}
use Rattle.columnar_primitive.proofs.empties.EmptiesU64PushUnit.push.Goals as goal

pub returns-clause-ok : goal.returns-clause-ok
returns-clause-ok c = on_ok_weaker c.add.result (λ e. number_took c.args.self.now.count c.add.new.self.count 1 c.add.ensures.held e) c.add.ensures.ok

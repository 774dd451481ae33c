use Rattle.std.proofs.lemmas.Result.{on_ok_weaker}
use Rattle.std.proofs.Common.{◌-◌, arith}
use Rattle.columnar_primitive.specs.Counts.{number_in}
use Rattle.columnar_primitive.specs.UnitLaws.{number_copied, length-units, units_piece}
use Rattle.columnar_primitive.proofs.empties.EmptiesU64ExtendFromEmpties.extend_from_self.Goals as goal

pub returns-clause-ok : goal.returns-clause-ok
returns-clause-ok g c =
    let n = number_in (g.V.Count.held c.args._view.count) in
    let l = length-units n in
    on_ok_weaker c.add.result (λ e. rw (units_piece c.args.range.start c.args.range.«end» n c.requires.ordered (omega (arith, c.requires.in_range, l))) (number_copied c.args.self.now.count c.add.new.self.count (c.args.range.«end» - c.args.range.start) c.args.range.start c.add.ensures.held e)) c.add.ensures.ok

use Rattle.std.proofs.Common.{arith}
use Rattle.columnar_core.specs.BoundLaws.{number_after}
use Rattle.columnar_lists.proofs.walk.Ranges.next.Goals as goal

pub returns-clause-stands : goal.returns-clause-stands
returns-clause-stands g c =
    record {
      count = c.requires.stands.count;
      within = let n = c.requires.stands.count in omega (arith, c.if-self.false, n);
      start = number_after (g.BC.Column.format.rows (g.BC.Column.content c.args.bounds.now)) c.args.self.now.index c.offset_after-upper.result c.offset_after-upper.ensures;
    }

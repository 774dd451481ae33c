use Rattle.std.proofs.Common.{◌≡◌, ◌+◌, ◌*◌, arith}
use Rattle.columnar_primitive.specs.FixedLaws.{fixed_row, fixed_get}
use Rattle.columnar_primitive.proofs.offsets.fixeds.FixedsIndex.get.Goals as goal

pub overflow_mul-result : goal.overflow_mul-result
overflow_mul-result g c = let h = (fixed_row g.row.K (g.CC.Words.bytes c.args.self.now.count) c.args.index c.requires.sound c.requires.in_range).0 in omega arith

pub overflow_add-result : goal.overflow_add-result
overflow_add-result g c = let h = (fixed_row g.row.K (g.CC.Words.bytes c.args.self.now.count) c.args.index c.requires.sound c.requires.in_range).0 in omega arith

pub returns-clause-row : goal.returns-clause-row
returns-clause-row g c =
    let e : g.row.K * (c.args.index + 1) ≡ g.row.K * c.args.index + g.row.K = omega arith in
    rw e at (fixed_get g.row.K (g.CC.Words.bytes c.args.self.now.count) c.args.index c.requires.sound c.requires.in_range)

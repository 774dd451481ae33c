use Rattle.std.proofs.Common.{[], ◌∷◌, refl, arith}
use Rattle.columnar_core.specs.Bytes.{le_bytes}
use Rattle.columnar_primitive.specs.FixedLaws.{fixed_cut, length-fixed}
use Rattle.columnar_primitive.specs.HeldLaws.{count-word}
use Rattle.columnar_primitive.proofs.offsets.fixeds.FixedsU64Truncate.truncate.Goals as goal

pub returns-clause-cut : goal.returns-clause-cut
returns-clause-cut g c =
    let e = length-fixed g.row.K (le_bytes (c.args.self.now.count ∷ [])) in
    fixed_cut g.row.K {old = le_bytes (c.args.self.now.count ∷ [])} {new = le_bytes (c.args.n ∷ [])} c.args.n refl (count-word c.args.n (omega arith)) (rw (← e) at c.requires.in_range) c.requires.sound

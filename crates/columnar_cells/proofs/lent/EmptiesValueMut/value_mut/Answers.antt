use Rattle.std.proofs.Common.{refl}
use Rattle.columnar_primitive.specs.Units.{units_format}
use Rattle.columnar_primitive.specs.UnitLaws.{unit_at}
use Rattle.columnar_cells.specs.WroteLaws.{wrote_same}
use Rattle.columnar_cells.proofs.lent.EmptiesValueMut.value_mut.Goals as goal

pub returns : goal.returns
returns g c =
    let h = unit_at (g.CC.Count.held c.args.self.now.count) c.args._index c.requires.in_range in
    ((refl, λ w. refl), record { writes_back = tt; value = refl; shows = h; leaves = λ w. wrote_same units_format c.args._index _ c.requires.sound h })

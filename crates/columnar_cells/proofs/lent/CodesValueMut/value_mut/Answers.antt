use Rattle.std.proofs.Common.{refl}
use Rattle.columnar_primitive.specs.MappedLaws.{mapped_get}
use Rattle.columnar_cells.specs.WroteLaws.{mapped_wrote}
use Rattle.columnar_cells.proofs.lent.CodesValueMut.value_mut.Goals as goal

pub returns : goal.returns
returns g c = (
  (refl, λ w. refl),
  record {
    writes_back = tt;
    value = c.value_mut.ensures.value;
    shows = mapped_get g.T.Coded.row_of c.args.index _ _ c.value_mut.ensures.shows;
    leaves = λ w. mapped_wrote g.CV.Column.format g.T.Coded.row_of g.T.Rule.is_code c.args.index _ c.requires.sound (g.met.T.EveryCode.every _) (c.value_mut.ensures.leaves w);
  },
)

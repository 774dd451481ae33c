use Rattle.columnar_base.specs.TwoPartsLaws.{two_parts}
use Rattle.columnar_base.specs.LongTupleLaws.{sides_two}
use Rattle.columnar_core.proofs.sides.Tuple2RefLentSides.have_rows.Goals as goal

pub len-requires : goal.len-requires
len-requires g c = (two_parts (sides_two g.A.Column.format g.R.LentSides.head g.R.LentSides.others) (g.A.Column.content c.args.self.now.0.now) (g.R.LentSides.content c.args.self.now.1) c.requires).left

pub have_rows-requires : goal.have_rows-requires
have_rows-requires g c = (two_parts (sides_two g.A.Column.format g.R.LentSides.head g.R.LentSides.others) (g.A.Column.content c.args.self.now.0.now) (g.R.LentSides.content c.args.self.now.1) c.requires).right

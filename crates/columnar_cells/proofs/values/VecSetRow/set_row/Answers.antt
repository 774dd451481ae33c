use Rattle.std.proofs.Common.{sym}
use Rattle.columnar_base.specs.ElementLaws.{length-typed}
use Rattle.columnar_cells.specs.WroteLaws.{elements_wrote}
use Rattle.columnar_cells.proofs.values.VecSetRow.set_row.Goals as goal

pub index_mut-requires : goal.index_mut-requires
index_mut-requires g c = rw (c.args.self.now.ok.0, sym (length-typed g.met.T.Element.element c.args.self.now.items)) c.requires.in_range

pub returns : goal.returns
returns g c = elements_wrote g.met.T.Element.element c.args.self.now.items c.args.index c.args.item

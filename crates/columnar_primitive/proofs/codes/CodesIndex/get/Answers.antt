use Rattle.columnar_primitive.specs.MappedLaws.{mapped_parts, mapped_get, pass_get}
use Rattle.columnar_primitive.proofs.codes.CodesIndex.get.Goals as goal

pub from_code-requires : goal.from_code-requires
from_code-requires g c = pass_get g.T.Rule.is_code c.args.index (g.CV.Column.format.rows (g.CV.Column.content c.args.self.now.values)) (g.T.Code.Item.meaning c.get.result) (mapped_parts g.CV.Column.format g.T.Coded.row_of g.T.Rule.is_code c.requires.sound).pass c.get.ensures.row

pub returns-clause-row : goal.returns-clause-row
returns-clause-row g c = rw c.from_code.ensures.row (mapped_get g.T.Coded.row_of c.args.index (g.CV.Column.format.rows (g.CV.Column.content c.args.self.now.values)) (g.T.Code.Item.meaning c.get.result) c.get.ensures.row)

use Rattle.std.proofs.Common.{map, ◌∙◌}
use Rattle.std.specs.Int.{w8}
use Rattle.columnar_base.specs.Numbers.{unsigned_row}
use Rattle.columnar_lookback.specs.SameLaws.{text_at}
use Rattle.columnar_lookback.proofs.same.StringsVecU8SameAs.same.Goals as goal

pub returns : goal.returns
returns g c = λ r h. c.same_row.ensures ∙ text_at _ c.args.at (map (unsigned_row w8) c.get.result.now) (map (unsigned_row w8) c.text_bytes.result.now) r (g.T.Item.meaning c.args.item.now) c.get.ensures.row h c.text_bytes.ensures

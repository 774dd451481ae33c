use Rattle.std.proofs.Common.{◌∙◌, sym}
use Rattle.columnar_lists.specs.ListLaws.{lists_parts, length-lists}
use Rattle.columnar_strings.proofs.string.StringsLen.len.Goals as goal

pub len-requires : goal.len-requires
len-requires g c = (lists_parts g.BC.Column.format g.VC.Column.format c.requires).bounds

pub returns : goal.returns
returns g c = c.len.ensures ∙ sym (length-lists g.BC.Column.format g.VC.Column.format (g.BC.Column.content c.args.self.now.bounds) (g.VC.Column.content c.args.self.now.values))

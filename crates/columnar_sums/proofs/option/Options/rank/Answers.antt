use Rattle.std.proofs.Common.{◌∙◌, sym}
use Rattle.columnar_sums.specs.OptionLaws.{options_within}
use Rattle.columnar_sums.specs.RankColumns.{ranks_bits, ranks_content}
use Rattle.columnar_sums.specs.WeaveLaws.{length-somes}
use Rattle.columnar_sums.proofs.option.Options.rank.Goals as goal

pub rank-requires-clause-in_range : goal.rank-requires-clause-in_range
rank-requires-clause-in_range g c = options_within g.TC.Column.format (ranks_content g.CC.Words.bytes g.VC.Words.bytes g.WC.Words.bytes c.args.self.now.indexes) (g.TC.Column.content c.args.self.now.somes) c.args.n c.requires.in_range

pub returns : goal.returns
returns g c = c.rank.ensures.value ∙ sym (length-somes c.args.n (ranks_bits (ranks_content g.CC.Words.bytes g.VC.Words.bytes g.WC.Words.bytes c.args.self.now.indexes)) (g.TC.Column.format.rows (g.TC.Column.content c.args.self.now.somes)))

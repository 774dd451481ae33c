use Rattle.std.proofs.Common.{sym, ◌∙◌}
use Rattle.columnar_sums.specs.OptionLaws.{length-options}
use Rattle.columnar_sums.specs.RankColumns.{ranks_content}
use Rattle.std.proofs.lemmas.List.{length-map}
use Rattle.columnar_core.specs.Row.{truth}
use Rattle.columnar_bits.specs.BoolColumns.{bits_in}
use Rattle.columnar_sums.proofs.option.OptionsLen.len.Goals as goal

pub returns : goal.returns
returns g c = c.len.ensures ∙ (length-map (bits_in (g.VC.Words.bytes c.args.self.now.indexes.values.values) (g.WC.Words.bytes c.args.self.now.indexes.values.tail)) truth ∙ sym (length-options g.TC.Column.format (ranks_content g.CC.Words.bytes g.VC.Words.bytes g.WC.Words.bytes c.args.self.now.indexes) (g.TC.Column.content c.args.self.now.somes)))

use Rattle.std.proofs.Common.{drop, sym, ◌∙◌}
use Rattle.columnar_sums.specs.OptionLaws.{length-options}
use Rattle.columnar_sums.specs.RankColumns.{ranks_format}
use Rattle.columnar_core.specs.Store.{slices_in}
use Rattle.std.proofs.lemmas.List.{length-map}
use Rattle.columnar_core.specs.Row.{truth}
use Rattle.columnar_sums.specs.RankColumns.{ranks_bits}
use Rattle.columnar_sums.proofs.option.bytes.OptionsStored.rows_in.Goals as goal

pub returns : goal.returns
returns g c = c.rows_in.ensures ∙ (length-map (ranks_bits (ranks_format.build (drop c.args.offset (slices_in c.args.store.now)))) truth ∙ sym (length-options g.TC.Column.format (ranks_format.build (drop c.args.offset (slices_in c.args.store.now))) (g.TC.Column.format.build (drop 3 (drop c.args.offset (slices_in c.args.store.now))))))

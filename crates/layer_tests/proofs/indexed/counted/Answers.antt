use Rattle.std.proofs.Common.{◌∙◌, ap, length}
use Rattle.std.proofs.lemmas.Iterator.Consumers.{count_from_yields_List}
use Rattle.columnar_core.specs.Column.{aligns_left, byte_slices_left}
use Rattle.columnar_core.specs.ColumnLaws.{slices_given}
use Rattle.layer_tests.proofs.indexed.counted.Goals as goal

pub returns : goal.returns
returns g c = count_from_yields_List c.new.result c.count.result c.count.ensures.ran (slices_given byte_slices_left aligns_left c.new.result) ∙ ap length c.new.ensures.slices ∙ g.met.S.Stored.counted c.args.item.now

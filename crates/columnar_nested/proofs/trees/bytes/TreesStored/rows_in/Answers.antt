use Rattle.std.proofs.Common.{◌∙◌, ap, length}
use Rattle.columnar_base.specs.WordViews.{words_in, bytes_of}
use Rattle.columnar_core.specs.Store.{slices_in}
use Rattle.columnar_nested.specs.JudgeLaws.{trees_in}
use Rattle.columnar_nested.proofs.trees.bytes.TreesStored.rows_in.Goals as goal

pub returns : goal.returns
returns g c = trees_in g.TC.Column.format (slices_in c.args.store.now) c.args.offset c.get.result.now c.requires.fits c.get.ensures (c.word_count.ensures.count ∙ ap (λ x. length (words_in (bytes_of x))) c.from_le_bytes.ensures)

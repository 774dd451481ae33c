use Rattle.columnar_sums.specs.OptionLaws.{options_at}
use Rattle.columnar_core.specs.Store.{slices_in}
use Rattle.columnar_sums.proofs.option.bytes.OptionsViewU64ViewU64ViewU64FromBytes.from_store.Goals as goal

pub returns-clause-content : goal.returns-clause-content
returns-clause-content g c = options_at g.TC.Column.format c.args.offset.now c.from_store-indexes.new.offset (slices_in c.args.store.now) c.from_store-indexes.ensures.content c.from_store-somes.ensures.content c.from_store-indexes.ensures.next

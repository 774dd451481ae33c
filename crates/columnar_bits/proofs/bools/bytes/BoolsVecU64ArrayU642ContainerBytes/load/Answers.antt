use Rattle.columnar_core.specs.Store.{slices_in}
use Rattle.columnar_bits.specs.BoolByteLaws.{loaded_at}
use Rattle.columnar_bits.proofs.bools.bytes.BoolsVecU64ArrayU642ContainerBytes.load.Goals as goal

pub returns-clause-content : goal.returns-clause-content
returns-clause-content c = loaded_at (slices_in c.args.store.now) c.args.offset c.in_ok-values.values.items c.two_words.result c.get.result.now c.requires.fits.room c.in_ok-values.ensures.content c.two_words.ensures c.get.ensures

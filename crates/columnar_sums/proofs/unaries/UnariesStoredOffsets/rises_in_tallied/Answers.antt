use Rattle.std.proofs.Common.{sym, ◌∙◌, drop}
use Rattle.columnar_core.specs.Store.{slices_in}
use Rattle.columnar_sums.specs.RankColumns.{ranks_format}
use Rattle.columnar_sums.specs.UnaryChangeLaws.{content_rises, bits_fit}
use Rattle.columnar_sums.proofs.unaries.UnariesStoredOffsets.rises_in_tallied.Goals as goal

pub ends_in-requires : goal.ends_in-requires
ends_in-requires g c = bits_fit c.args.offset (slices_in c.args.store.now) c.requires.fits

pub returns-clause-value : goal.returns-clause-value
returns-clause-value g c = c.ends_in.ensures.value ∙ sym (content_rises (ranks_format.build (drop c.args.offset (slices_in c.args.store.now))) c.args.«end» c.requires.fits.sound)

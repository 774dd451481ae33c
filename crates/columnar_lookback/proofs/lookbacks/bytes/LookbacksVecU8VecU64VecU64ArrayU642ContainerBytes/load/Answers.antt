use Rattle.columnar_base.specs.Elements.{bytes_format}
use Rattle.columnar_lookback.specs.LookbackLaws.{lookbacks_results}
use Rattle.columnar_lookback.proofs.lookbacks.bytes.LookbacksVecU8VecU64VecU64ArrayU642ContainerBytes.load.Goals as goal

pub load-requires-clause-fits : goal.load-requires-clause-fits
load-requires-clause-fits g c = record { room = c.requires.fits.room; sound = lookbacks_results g.TC.Column.format bytes_format c.requires.fits.sound }

use Rattle.std.proofs.Common.{refl, arith}
use Rattle.columnar_variants.specs.DualLaws.{firsts_representable, seconds_representable}
use Rattle.columnar_variants.proofs.dual.bytes.view_of_dual.Goals as goal

pub from_store-firsts-requires : goal.from_store-firsts-requires
from_store-firsts-requires g c =
    let r = c.requires.room in
    λ k. ((refl, tt), (firsts_representable g.SC.Column.format g.TC.Column.format c.requires.representable, omega (arith, r)))

pub from_store-seconds-requires : goal.from_store-seconds-requires
from_store-seconds-requires g c =
    let r = c.requires.room in
    λ k. ((refl, tt), (seconds_representable g.SC.Column.format g.TC.Column.format c.requires.representable, omega (arith, r, c.from_store-firsts.ensures.next)))

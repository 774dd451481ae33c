use Rattle.std.proofs.Common.{arith, refl, ap, ◌∙◌, ◌+◌}
use Rattle.columnar_core.specs.Store.{slices_in}
use Rattle.columnar_sums.specs.ResultLaws.{oks_representable, errs_representable, results_at}
use Rattle.columnar_sums.proofs.result.bytes.ResultsViewU64ViewU64ViewU64FromBytes.from_store.Goals as goal

pub from_store-oks-requires : goal.from_store-oks-requires
from_store-oks-requires g c =
    let r = c.requires.room in
    λ k. ((refl, tt), (oks_representable g.SC.Column.format g.TC.Column.format c.requires.representable, omega (arith, r, c.from_store-indexes.ensures.next)))

pub from_store-errs-requires : goal.from_store-errs-requires
from_store-errs-requires g c =
    let r = c.requires.room in
    λ k. ((refl, tt), (errs_representable g.SC.Column.format g.TC.Column.format c.requires.representable, omega (arith, r, c.from_store-indexes.ensures.next, c.from_store-oks.ensures.next)))

pub returns-clause-content : goal.returns-clause-content
returns-clause-content g c = results_at g.SC.Column.format g.TC.Column.format c.args.offset.now c.from_store-indexes.new.offset c.from_store-oks.new.offset (slices_in c.args.store.now) c.from_store-indexes.ensures.content c.from_store-oks.ensures.content c.from_store-errs.ensures.content c.from_store-indexes.ensures.next (c.from_store-oks.ensures.next ∙ ap (λ n. n + g.SC.Column.format.count) c.from_store-indexes.ensures.next)

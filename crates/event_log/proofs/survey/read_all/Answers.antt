use Rattle.std.proofs.Common.{refl}
use Rattle.columnar_core.specs.ChangeLaws.{passed_on}
use Rattle.event_log.proofs.Surveying.{one_surveyed, foreign_at, all_surveyed}
use Rattle.event_log.proofs.survey.read_all.Goals as goal

pub returns-in_err-count_batch-clause-err : goal.returns-in_err-count_batch-clause-err
returns-in_err-count_batch-clause-err g c =
    let l = c.loop-store in
    rw (passed_on c.from_residual.result c.from_residual.ensures.1) (foreign_at g.B.Batch.format c.args.bytes.now l.rest.now c.in-Ok.store.now c.in-Ok.after.now l.batches _ l.counts l.invariant (record { begins = c.in-Ok.ensures.begins; parts = c.in-Ok.ensures.parts }) refl c.in_err-count_batch.field-0.0 c.in_err-count_batch.ensures.err)

pub loop-store-preserved : goal.loop-store-preserved
loop-store-preserved g c =
    let l = c.loop-store in
    let both = c.plus-counts.ensures in
    one_surveyed g.B.Batch.format c.args.bytes.now l.rest.now c.in-Ok.store.now c.in-Ok.after.now l.batches _ l.counts c.in_ok-count_batch.field-0 c.plus-counts.result l.invariant (record { begins = c.in-Ok.ensures.begins; parts = c.in-Ok.ensures.parts })
    c.in_ok-count_batch.ensures.ok.0 c.in_ok-count_batch.ensures.ok.1 refl (record { debug = both.debug; info = both.info; warn = both.warn; error = both.error })

pub returns-clause-ok : goal.returns-clause-ok
returns-clause-ok g c = all_surveyed g.B.Batch.format c.args.bytes.now c.loop-store.rest.now c.loop-store.batches c.loop-store.counts c.loop-store.invariant c.in_default.ensures.none

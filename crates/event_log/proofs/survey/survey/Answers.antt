use Rattle.std.proofs.Common.{rules, ◌≡◌, true, false}
use Rattle.event_log.specs.Tables.{begins_with_table, table_bytes}
use Rattle.event_log.proofs.Surveying.{tail_short, found_of, foreign_tail}
use Rattle.event_log.proofs.survey.survey.Goals as goal

pub overflow_sub-whole : goal.overflow_sub-whole
overflow_sub-whole g c = tail_short g.B.Batch.format c.args.bytes.now c.in_ok-batches.batches c.in_ok-batches.counts c.in_ok-batches.tail.now c.in_ok-batches.ensures.ok

pub returns-then-not-begins_batch-clause-err : goal.returns-then-not-begins_batch-clause-err
returns-then-not-begins_batch-clause-err g c =
    let none : begins_with_table (table_bytes g.B.Batch.format) c.in_ok-batches.tail.now ≡ false = search rules in
    foreign_tail g.B.Batch.format c.args.bytes.now c.in_ok-batches.batches c.in_ok-batches.counts c.in_ok-batches.tail.now c.in_ok-batches.ensures.ok none

pub returns-clause-ok : goal.returns-clause-ok
returns-clause-ok g c =
    let begins : begins_with_table (table_bytes g.B.Batch.format) c.in_ok-batches.tail.now ≡ true = search rules in
    found_of g.B.Batch.format c.args.bytes.now c.in_ok-batches.batches c.in_ok-batches.counts c.in_ok-batches.tail.now c.in_ok-batches.ensures.ok begins

use Rattle.std.proofs.Common.{rules, ◌≡◌, ◌≢◌, [], length, refl}
use Rattle.columnar_core.specs.ChangeLaws.{passed_on}
use Rattle.event_log.proofs.Texts.{none_long, none_read, one_read, one_refused, all_done, line_passed}
use Rattle.event_log.proofs.reading.batch_of.Goals as goal

pub loop-rest-init : goal.loop-rest-init
loop-rest-init g c = (c.utf8.text, none_read c.args.text.now (g.B.Batch.rows c.none-batch.result) c.none-batch.ensures)

pub returns-in_err-add_line-clause-refused : goal.returns-in_err-add_line-clause-refused
returns-in_err-add_line-clause-refused g c =
    let l = c.loop-rest in
    let some : c.loop-rest.rest.now ≢ [] = search rules in
    rw (passed_on c.from_residual.result c.from_residual.ensures.1) (line_passed c.in_err-add_line.field-0.0 _ _ (λ n h. one_refused c.args.text.now l.rest.now c.first_line.result.0.now c.first_line.result.1.now (g.B.Batch.rows l.batch) l.number n l.invariant.1 some c.first_line.ensures.line c.first_line.ensures.after h.1 h.0) c.in_err-add_line.ensures.refused)

pub loop-rest-preserved : goal.loop-rest-preserved
loop-rest-preserved g c =
    let l = c.loop-rest in
    let some : c.loop-rest.rest.now ≢ [] = search rules in
    (search rules, one_read c.args.text.now l.rest.now c.first_line.result.0.now c.first_line.result.1.now (g.B.Batch.rows l.batch) (g.B.Batch.rows c.add_line.new.batch) l.number _ l.invariant.1 some c.first_line.ensures.line c.first_line.ensures.after c.in_ok-add_line.ensures.event c.in_ok-add_line.ensures.row refl)

pub returns-clause-ok : goal.returns-clause-ok
returns-clause-ok g c =
    let zero : length c.loop-rest.rest.now ≡ 0 = search rules in
    let none = none_long c.loop-rest.rest.now zero in
    all_done c.args.text.now (g.B.Batch.rows c.loop-rest.batch) c.loop-rest.number (rw none at c.loop-rest.invariant.1)

use Rattle.columnar_core.specs.WordViews.{view_bytes}
use Rattle.columnar_sums.specs.RankColumns.{ranks_format, ranks_bits, ranks_content}
use Rattle.columnar_sums.specs.Results.{oks, errs, results_format}
use Rattle.columnar_sums.specs.ResultLaws.{results_parts}
use Rattle.columnar_core.specs.RoomLaws.{both_add, counted_adds, through_adds}
use Rattle.columnar_sums.specs.RoomLaws.{up_to_counted, results_level, oks_after, errs_after}
use Rattle.columnar_sums.proofs.result.grow.ResultsVecU64VecU64ArrayU642ExtendFromResultsViewU64ViewU64ViewU64.add_room.Goals as goal

pub returns : goal.returns
returns g c = both_add
    (counted_adds (results_format g.V.Column.format g.W.Column.format) ranks_format (λ s. ((results_parts g.V.Column.format g.W.Column.format s).bits, results_level (ranks_bits (ranks_content view_bytes view_bytes view_bytes c.args.view.indexes)) (g.V.Column.format.rows (g.V.Column.content c.args.view.oks)) (g.W.Column.format.rows (g.W.Column.content c.args.view.errs)))) (up_to_counted c.add_room.result) c.add_room.ensures)
    (both_add
    (through_adds oks (results_format g.V.Column.format g.W.Column.format) g.V.Column.format (λ s. let p = results_parts g.V.Column.format g.W.Column.format s in (p.oks, λ rs. oks_after (ranks_bits (ranks_content view_bytes view_bytes view_bytes c.args.view.indexes)) (g.V.Column.format.rows (g.V.Column.content c.args.view.oks)) (g.W.Column.format.rows (g.W.Column.content c.args.view.errs)) p.ok_level rs)) c.add_room-2.ensures)
    (through_adds errs (results_format g.V.Column.format g.W.Column.format) g.W.Column.format (λ s. let p = results_parts g.V.Column.format g.W.Column.format s in (p.errs, λ rs. errs_after (ranks_bits (ranks_content view_bytes view_bytes view_bytes c.args.view.indexes)) (g.V.Column.format.rows (g.V.Column.content c.args.view.oks)) (g.W.Column.format.rows (g.W.Column.content c.args.view.errs)) p.err_level rs)) c.add_room-3.ensures))

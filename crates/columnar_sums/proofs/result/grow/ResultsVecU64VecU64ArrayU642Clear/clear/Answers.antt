use Rattle.std.proofs.Common.{[], refl, length}
use Rattle.columnar_bits.specs.BoolLaws.{bits_from_rows}
use Rattle.columnar_sums.specs.ResultLaws.{results_none, results_parts}
use Rattle.columnar_sums.specs.RankColumns.{ranks_format, owned_ranks, ranked_bits, ranks_bits}
use Rattle.columnar_sums.specs.Rooms.{held_top}
use Rattle.columnar_sums.specs.Results.{oks, errs, results_format}
use Rattle.columnar_core.specs.RoomLaws.{both_free, counted_frees, through_frees}
use Rattle.columnar_sums.specs.RoomLaws.{count_counted, results_level, oks_all, errs_all}
use Rattle.columnar_sums.proofs.result.grow.ResultsVecU64VecU64ArrayU642Clear.clear.Goals as goal

pub returns-clause-sound : goal.returns-clause-sound
returns-clause-sound g c = results_none g.SC.Column.format g.TC.Column.format c.clear.ensures.sound c.clear-2.ensures.sound c.clear-3.ensures.sound c.clear.ensures.rows c.clear-2.ensures.rows c.clear-3.ensures.rows

pub returns-clause-rows : goal.returns-clause-rows
returns-clause-rows g c = let b = bits_from_rows _ [] c.clear.ensures.rows in rw b refl

pub returns-clause-freed : goal.returns-clause-freed
returns-clause-freed g c = both_free
    (counted_frees (results_format g.SC.Column.format g.TC.Column.format) ranks_format 0 (λ s. ((results_parts g.SC.Column.format g.TC.Column.format s).bits, results_level (ranks_bits (owned_ranks c.args.self.now.indexes)) (g.SC.Column.format.rows (g.SC.Column.content c.args.self.now.oks)) (g.TC.Column.format.rows (g.TC.Column.content c.args.self.now.errs)))) (count_counted (length (ranked_bits c.clear.new.self)) (held_top c.clear.new.self)) c.clear.ensures.freed)
    (both_free
    (through_frees oks (results_format g.SC.Column.format g.TC.Column.format) g.SC.Column.format 0 0 (λ s. let p = results_parts g.SC.Column.format g.TC.Column.format s in (p.oks, λ rs. oks_all (ranks_bits (owned_ranks c.args.self.now.indexes)) (g.SC.Column.format.rows (g.SC.Column.content c.args.self.now.oks)) (g.TC.Column.format.rows (g.TC.Column.content c.args.self.now.errs)) p.ok_level rs)) c.clear-2.ensures.freed)
    (through_frees errs (results_format g.SC.Column.format g.TC.Column.format) g.TC.Column.format 0 0 (λ s. let p = results_parts g.SC.Column.format g.TC.Column.format s in (p.errs, λ rs. errs_all (ranks_bits (owned_ranks c.args.self.now.indexes)) (g.SC.Column.format.rows (g.SC.Column.content c.args.self.now.oks)) (g.TC.Column.format.rows (g.TC.Column.content c.args.self.now.errs)) p.err_level rs)) c.clear-3.ensures.freed))

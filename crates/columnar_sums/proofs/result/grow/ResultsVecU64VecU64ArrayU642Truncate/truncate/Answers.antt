use Rattle.std.proofs.Common.{arith, length}
use Rattle.std.proofs.lemmas.List.{length-map}
use Rattle.columnar_core.specs.Row.{truth}
use Rattle.columnar_sums.specs.RankColumns.{owned_ranks, ranks_bits, ranks_format, ranked_bits}
use Rattle.columnar_sums.specs.ResultLaws.{results_parts, results_within, results_clear, results_clear_of, results_ok_top, results_err_top, results_cut}
use Rattle.columnar_sums.specs.Rooms.{held_top}
use Rattle.columnar_sums.specs.Results.{oks, errs, results_format, zeros}
use Rattle.columnar_sums.specs.Counting.{ones}
use Rattle.columnar_core.specs.RoomLaws.{both_free, counted_frees, through_frees}
use Rattle.columnar_sums.specs.RoomLaws.{count_counted, results_level, oks_rest, errs_rest}
use Rattle.columnar_sums.proofs.result.grow.ResultsVecU64VecU64ArrayU642Truncate.truncate.Goals as goal

pub rank-oks-requires-clause-in_range : goal.rank-oks-requires-clause-in_range
rank-oks-requires-clause-in_range g c = results_within g.SC.Column.format g.TC.Column.format (owned_ranks c.args.self.now.indexes) (g.SC.Column.content c.args.self.now.oks) (g.TC.Column.content c.args.self.now.errs) c.args.n c.requires.in_range

pub truncate-requires-clause-sound : goal.truncate-requires-clause-sound
truncate-requires-clause-sound g c = (results_parts g.SC.Column.format g.TC.Column.format c.requires.sound).oks

pub truncate-requires-clause-in_range : goal.truncate-requires-clause-in_range
truncate-requires-clause-in_range g c = rw c.rank-oks.ensures.value (results_ok_top g.SC.Column.format g.TC.Column.format (owned_ranks c.args.self.now.indexes) (g.SC.Column.content c.args.self.now.oks) (g.TC.Column.content c.args.self.now.errs) c.args.n c.requires.sound c.requires.in_range)

pub overflow_sub-n : goal.overflow_sub-n
overflow_sub-n g c = omega (arith, c.rank-oks.ensures.value, results_clear g.SC.Column.format g.TC.Column.format (owned_ranks c.args.self.now.indexes) (g.SC.Column.content c.args.self.now.oks) (g.TC.Column.content c.args.self.now.errs) c.args.n c.requires.in_range)

pub truncate-requires-2-clause-sound : goal.truncate-requires-2-clause-sound
truncate-requires-2-clause-sound g c = (results_parts g.SC.Column.format g.TC.Column.format c.requires.sound).errs

pub truncate-requires-2-clause-in_range : goal.truncate-requires-2-clause-in_range
truncate-requires-2-clause-in_range g c =
    let x = owned_ranks c.args.self.now.indexes in
    let y = g.SC.Column.content c.args.self.now.oks in
    let z = g.TC.Column.content c.args.self.now.errs in
    omega (arith, results_clear_of g.SC.Column.format g.TC.Column.format x y z c.args.n c.rank-oks.result c.rank-oks.ensures.value c.requires.in_range, results_err_top g.SC.Column.format g.TC.Column.format x y z c.args.n c.requires.sound c.requires.in_range)

pub truncate-requires-3-clause-in_range : goal.truncate-requires-3-clause-in_range
truncate-requires-3-clause-in_range g c = omega (arith, length-map (ranks_bits (owned_ranks c.args.self.now.indexes)) truth, results_within g.SC.Column.format g.TC.Column.format (owned_ranks c.args.self.now.indexes) (g.SC.Column.content c.args.self.now.oks) (g.TC.Column.content c.args.self.now.errs) c.args.n c.requires.in_range)

pub returns-clause-cut : goal.returns-clause-cut
returns-clause-cut g c =
    let e = results_clear_of g.SC.Column.format g.TC.Column.format (owned_ranks c.args.self.now.indexes) (g.SC.Column.content c.args.self.now.oks) (g.TC.Column.content c.args.self.now.errs) c.args.n c.rank-oks.result c.rank-oks.ensures.value c.requires.in_range in
    results_cut g.SC.Column.format g.TC.Column.format c.requires.sound c.truncate-3.ensures.cut (rw c.rank-oks.ensures.value at c.truncate.ensures.cut) (rw e at c.truncate-2.ensures.cut) c.requires.in_range

pub returns-clause-freed : goal.returns-clause-freed
returns-clause-freed g c =
    let x = owned_ranks c.args.self.now.indexes in
    let y = g.SC.Column.content c.args.self.now.oks in
    let z = g.TC.Column.content c.args.self.now.errs in
    let m = results_within g.SC.Column.format g.TC.Column.format x y z c.args.n c.requires.in_range in
    let e = results_clear_of g.SC.Column.format g.TC.Column.format x y z c.args.n c.rank-oks.result c.rank-oks.ensures.value c.requires.in_range in
    both_free
    (counted_frees (results_format g.SC.Column.format g.TC.Column.format) ranks_format c.args.n (λ s. ((results_parts g.SC.Column.format g.TC.Column.format s).bits, results_level (ranks_bits (owned_ranks c.args.self.now.indexes)) (g.SC.Column.format.rows (g.SC.Column.content c.args.self.now.oks)) (g.TC.Column.format.rows (g.TC.Column.content c.args.self.now.errs)))) (count_counted (length (ranked_bits c.truncate-3.new.self)) (held_top c.truncate-3.new.self)) c.truncate-3.ensures.freed)
    (both_free
    (through_frees oks (results_format g.SC.Column.format g.TC.Column.format) g.SC.Column.format c.args.n (ones (ranks_bits (owned_ranks c.args.self.now.indexes)) c.args.n) (λ s. let p = results_parts g.SC.Column.format g.TC.Column.format s in (p.oks, λ rs. oks_rest (ranks_bits (owned_ranks c.args.self.now.indexes)) (g.SC.Column.format.rows (g.SC.Column.content c.args.self.now.oks)) (g.TC.Column.format.rows (g.TC.Column.content c.args.self.now.errs)) c.args.n p.ok_level m rs)) (rw c.rank-oks.ensures.value at c.truncate.ensures.freed))
    (through_frees errs (results_format g.SC.Column.format g.TC.Column.format) g.TC.Column.format c.args.n (zeros (ranks_bits (owned_ranks c.args.self.now.indexes)) c.args.n) (λ s. let p = results_parts g.SC.Column.format g.TC.Column.format s in (p.errs, λ rs. errs_rest (ranks_bits (owned_ranks c.args.self.now.indexes)) (g.SC.Column.format.rows (g.SC.Column.content c.args.self.now.oks)) (g.TC.Column.format.rows (g.TC.Column.content c.args.self.now.errs)) c.args.n p.err_level m rs)) (rw e at c.truncate-2.ensures.freed)))

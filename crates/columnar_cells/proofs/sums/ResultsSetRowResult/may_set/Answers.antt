use Rattle.std.proofs.Common.{arith, true, false}
use Rattle.columnar_sums.specs.ResultLaws.{results_parts, results_bit, results_within, results_clear, results_clear_of, results_ok_value, results_err_value}
use Rattle.columnar_sums.specs.RankColumns.{ranks_content}
use Rattle.columnar_cells.specs.RowAtLaws.{never}
use Rattle.columnar_cells.specs.SumLaws.{ok_row, err_row}
use Rattle.columnar_cells.proofs.sums.ResultsSetRowResult.may_set.Goals as goal

pub rank-at-requires-clause-in_range : goal.rank-at-requires-clause-in_range
rank-at-requires-clause-in_range g c = results_within g.SC.Column.format g.TC.Column.format (ranks_content g.CC.Words.bytes g.VC.Words.bytes g.WC.Words.bytes c.args.self.now.indexes) (g.SC.Column.content c.args.self.now.oks) (g.TC.Column.content c.args.self.now.errs) c.args.index (let l = c.requires.in_range in omega arith)

pub get-is_ok-requires-clause-in_range : goal.get-is_ok-requires-clause-in_range
get-is_ok-requires-clause-in_range g c = results_bit g.SC.Column.format g.TC.Column.format (ranks_content g.CC.Words.bytes g.VC.Words.bytes g.WC.Words.bytes c.args.self.now.indexes) (g.SC.Column.content c.args.self.now.oks) (g.TC.Column.content c.args.self.now.errs) c.args.index c.requires.in_range

pub may_set-requires-clause-sound : goal.may_set-requires-clause-sound
may_set-requires-clause-sound g c = (results_parts g.SC.Column.format g.TC.Column.format c.requires.sound).oks

pub may_set-requires-clause-in_range : goal.may_set-requires-clause-in_range
may_set-requires-clause-in_range g c = rw c.rank-at.ensures.value (results_ok_value g.SC.Column.format g.TC.Column.format c.args.index c.requires.sound (rw c.if-is_ok.true at c.get-is_ok.ensures.row))

pub overflow_sub-index : goal.overflow_sub-index
overflow_sub-index g c =
    let z = results_clear g.SC.Column.format g.TC.Column.format (ranks_content g.CC.Words.bytes g.VC.Words.bytes g.WC.Words.bytes c.args.self.now.indexes) (g.SC.Column.content c.args.self.now.oks) (g.TC.Column.content c.args.self.now.errs) c.args.index (let l = c.requires.in_range in omega arith) in
    omega (arith, z, c.rank-at.ensures.value)

pub may_set-requires-else-is_ok-2-clause-sound : goal.may_set-requires-else-is_ok-2-clause-sound
may_set-requires-else-is_ok-2-clause-sound g c = (results_parts g.SC.Column.format g.TC.Column.format c.requires.sound).errs

pub may_set-requires-else-is_ok-2-clause-in_range : goal.may_set-requires-else-is_ok-2-clause-in_range
may_set-requires-else-is_ok-2-clause-in_range g c = rw (results_clear_of g.SC.Column.format g.TC.Column.format (ranks_content g.CC.Words.bytes g.VC.Words.bytes g.WC.Words.bytes c.args.self.now.indexes) (g.SC.Column.content c.args.self.now.oks) (g.TC.Column.content c.args.self.now.errs) c.args.index c.rank-at.result c.rank-at.ensures.value (let l = c.requires.in_range in omega arith)) (results_err_value g.SC.Column.format g.TC.Column.format c.args.index c.requires.sound (rw c.if-is_ok-2.false at c.get-is_ok.ensures.row))

pub returns-then-is_ok : goal.returns-then-is_ok
returns-then-is_ok g c = rw (c.in-Ok.is, ok_row g.SC.Column.format g.TC.Column.format c.args.index c.requires.sound (rw c.if-is_ok.true at c.get-is_ok.ensures.row)) (rw c.rank-at.ensures.value at c.may_set.ensures)

pub returns-else-is_ok : goal.returns-else-is_ok
returns-else-is_ok g c = rw (c.in-Ok.is, err_row g.SC.Column.format g.TC.Column.format c.args.index c.requires.sound (rw c.if-is_ok.false at c.get-is_ok.ensures.row)) (never (λ h. h))

pub returns-then-is_ok-2 : goal.returns-then-is_ok-2
returns-then-is_ok-2 g c = rw (c.in-Err.is, ok_row g.SC.Column.format g.TC.Column.format c.args.index c.requires.sound (rw c.if-is_ok-2.true at c.get-is_ok.ensures.row)) (never (λ h. h))

pub returns-else-is_ok-2 : goal.returns-else-is_ok-2
returns-else-is_ok-2 g c = rw (c.in-Err.is, err_row g.SC.Column.format g.TC.Column.format c.args.index c.requires.sound (rw c.if-is_ok-2.false at c.get-is_ok.ensures.row)) (rw (results_clear_of g.SC.Column.format g.TC.Column.format (ranks_content g.CC.Words.bytes g.VC.Words.bytes g.WC.Words.bytes c.args.self.now.indexes) (g.SC.Column.content c.args.self.now.oks) (g.TC.Column.content c.args.self.now.errs) c.args.index c.rank-at.result c.rank-at.ensures.value (let l = c.requires.in_range in omega arith)) at c.may_set-else-is_ok-2.ensures)

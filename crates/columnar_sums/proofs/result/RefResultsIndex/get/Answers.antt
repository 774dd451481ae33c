use Rattle.std.proofs.Common.{arith}
use Rattle.columnar_sums.specs.ResultLaws.{results_parts, results_bit, results_within, results_clear, results_clear_of, results_ok_value, results_err_value, results_ok, results_err}
use Rattle.columnar_sums.specs.RankColumns.{ranks_content}
use Rattle.columnar_sums.proofs.result.RefResultsIndex.get.Goals as goal

pub rank_in_turn-at-requires-clause-in_range : goal.rank_in_turn-at-requires-clause-in_range
rank_in_turn-at-requires-clause-in_range g c = results_within g.SC.Column.format g.TC.Column.format (ranks_content g.CC.Words.bytes g.VC.Words.bytes g.WC.Words.bytes c.args.self.now.now.indexes) (g.SC.Column.content c.args.self.now.now.oks) (g.TC.Column.content c.args.self.now.now.errs) c.args.index (let l = c.requires.in_range in omega arith)

pub get-requires-clause-in_range : goal.get-requires-clause-in_range
get-requires-clause-in_range g c = results_bit g.SC.Column.format g.TC.Column.format (ranks_content g.CC.Words.bytes g.VC.Words.bytes g.WC.Words.bytes c.args.self.now.now.indexes) (g.SC.Column.content c.args.self.now.now.oks) (g.TC.Column.content c.args.self.now.now.errs) c.args.index c.requires.in_range

pub get-requires-then-get-clause-sound : goal.get-requires-then-get-clause-sound
get-requires-then-get-clause-sound g c = (results_parts g.SC.Column.format g.TC.Column.format c.requires.sound).oks

pub get-requires-then-get-clause-in_range : goal.get-requires-then-get-clause-in_range
get-requires-then-get-clause-in_range g c = rw c.rank_in_turn-at.ensures.value (results_ok_value g.SC.Column.format g.TC.Column.format c.args.index c.requires.sound (rw c.if-get.true at c.get.ensures.row))

pub overflow_sub-index : goal.overflow_sub-index
overflow_sub-index g c =
    let l = c.requires.in_range in
    let z = results_clear g.SC.Column.format g.TC.Column.format (ranks_content g.CC.Words.bytes g.VC.Words.bytes g.WC.Words.bytes c.args.self.now.now.indexes) (g.SC.Column.content c.args.self.now.now.oks) (g.TC.Column.content c.args.self.now.now.errs) c.args.index (omega arith) in
    omega (arith, z, c.rank_in_turn-at.ensures.value)

pub get-requires-else-get-clause-sound : goal.get-requires-else-get-clause-sound
get-requires-else-get-clause-sound g c = (results_parts g.SC.Column.format g.TC.Column.format c.requires.sound).errs

pub get-requires-else-get-clause-in_range : goal.get-requires-else-get-clause-in_range
get-requires-else-get-clause-in_range g c =
    let l = c.requires.in_range in
    let z = results_clear g.SC.Column.format g.TC.Column.format (ranks_content g.CC.Words.bytes g.VC.Words.bytes g.WC.Words.bytes c.args.self.now.now.indexes) (g.SC.Column.content c.args.self.now.now.oks) (g.TC.Column.content c.args.self.now.now.errs) c.args.index (omega arith) in
    let v = results_err_value g.SC.Column.format g.TC.Column.format c.args.index c.requires.sound (rw c.if-get.false at c.get.ensures.row) in
    omega (arith, z, v, c.rank_in_turn-at.ensures.value)

pub returns-then-get-clause-row : goal.returns-then-get-clause-row
returns-then-get-clause-row g c = results_ok g.SC.Column.format g.TC.Column.format (ranks_content g.CC.Words.bytes g.VC.Words.bytes g.WC.Words.bytes c.args.self.now.now.indexes) (g.SC.Column.content c.args.self.now.now.oks) (g.TC.Column.content c.args.self.now.now.errs) c.args.index _ (rw c.if-get.true at c.get.ensures.row) (rw c.rank_in_turn-at.ensures.value at c.get-then-get.ensures.row)

pub returns-else-get-clause-row : goal.returns-else-get-clause-row
returns-else-get-clause-row g c =
    let l = c.requires.in_range in
    let z = results_clear_of g.SC.Column.format g.TC.Column.format (ranks_content g.CC.Words.bytes g.VC.Words.bytes g.WC.Words.bytes c.args.self.now.now.indexes) (g.SC.Column.content c.args.self.now.now.oks) (g.TC.Column.content c.args.self.now.now.errs) c.args.index c.rank_in_turn-at.result c.rank_in_turn-at.ensures.value (omega arith) in
    results_err g.SC.Column.format g.TC.Column.format (ranks_content g.CC.Words.bytes g.VC.Words.bytes g.WC.Words.bytes c.args.self.now.now.indexes) (g.SC.Column.content c.args.self.now.now.oks) (g.TC.Column.content c.args.self.now.now.errs) c.args.index _ (rw c.if-get.false at c.get.ensures.row) (rw z at c.get-else-get.ensures.row)

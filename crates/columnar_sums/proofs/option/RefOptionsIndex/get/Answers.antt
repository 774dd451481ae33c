use Rattle.std.proofs.Common.{arith}
use Rattle.columnar_sums.specs.OptionLaws.{options_parts, options_bit, options_within, options_value, options_some, options_absent}
use Rattle.columnar_sums.specs.RankColumns.{ranks_content}
use Rattle.columnar_sums.proofs.option.RefOptionsIndex.get.Goals as goal

pub get-requires-clause-in_range : goal.get-requires-clause-in_range
get-requires-clause-in_range g c = options_bit g.TC.Column.format (ranks_content g.CC.Words.bytes g.VC.Words.bytes g.WC.Words.bytes c.args.self.now.now.indexes) (g.TC.Column.content c.args.self.now.now.somes) c.args.index c.requires.in_range

pub rank_in_turn-at-requires-clause-in_range : goal.rank_in_turn-at-requires-clause-in_range
rank_in_turn-at-requires-clause-in_range g c = options_within g.TC.Column.format (ranks_content g.CC.Words.bytes g.VC.Words.bytes g.WC.Words.bytes c.args.self.now.now.indexes) (g.TC.Column.content c.args.self.now.now.somes) c.args.index (let l = c.requires.in_range in omega arith)

pub get-requires-then-get-clause-sound : goal.get-requires-then-get-clause-sound
get-requires-then-get-clause-sound g c = (options_parts g.TC.Column.format c.requires.sound).values

pub get-requires-then-get-clause-in_range : goal.get-requires-then-get-clause-in_range
get-requires-then-get-clause-in_range g c = rw c.rank_in_turn-at.ensures.value (options_value g.TC.Column.format c.args.index c.requires.sound (rw c.if-get.true at c.get.ensures.row))

pub returns-then-get-clause-row : goal.returns-then-get-clause-row
returns-then-get-clause-row g c = options_some g.TC.Column.format (ranks_content g.CC.Words.bytes g.VC.Words.bytes g.WC.Words.bytes c.args.self.now.now.indexes) (g.TC.Column.content c.args.self.now.now.somes) c.args.index _ (rw c.if-get.true at c.get.ensures.row) (rw c.rank_in_turn-at.ensures.value at c.get-then-get.ensures.row)

pub returns-else-get-clause-row : goal.returns-else-get-clause-row
returns-else-get-clause-row g c = options_absent g.TC.Column.format (ranks_content g.CC.Words.bytes g.VC.Words.bytes g.WC.Words.bytes c.args.self.now.now.indexes) (g.TC.Column.content c.args.self.now.now.somes) c.args.index (rw c.if-get.false at c.get.ensures.row)

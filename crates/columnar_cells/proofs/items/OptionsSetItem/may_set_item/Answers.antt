use Rattle.std.proofs.Common.{arith, true, false}
use Rattle.columnar_sums.specs.OptionLaws.{options_parts, options_bit, options_within, options_value}
use Rattle.columnar_sums.specs.RankColumns.{ranks_content}
use Rattle.columnar_cells.specs.RowAtLaws.{never}
use Rattle.columnar_cells.specs.SumLaws.{some_row, none_row}
use Rattle.columnar_cells.proofs.items.OptionsSetItem.may_set_item.Goals as goal

pub get-requires-clause-in_range : goal.get-requires-clause-in_range
get-requires-clause-in_range g c = options_bit g.TC.Column.format (ranks_content g.CC.Words.bytes g.VC.Words.bytes g.WC.Words.bytes c.args.self.now.indexes) (g.TC.Column.content c.args.self.now.somes) c.args.index c.requires.in_range

pub rank-requires-clause-in_range : goal.rank-requires-clause-in_range
rank-requires-clause-in_range g c = options_within g.TC.Column.format (ranks_content g.CC.Words.bytes g.VC.Words.bytes g.WC.Words.bytes c.args.self.now.indexes) (g.TC.Column.content c.args.self.now.somes) c.args.index (let l = c.requires.in_range in omega arith)

pub may_set_item-requires-clause-sound : goal.may_set_item-requires-clause-sound
may_set_item-requires-clause-sound g c = (options_parts g.TC.Column.format c.requires.sound).values

pub may_set_item-requires-clause-in_range : goal.may_set_item-requires-clause-in_range
may_set_item-requires-clause-in_range g c = rw c.rank.ensures.value (options_value g.TC.Column.format c.args.index c.requires.sound (rw c.if-get.true at c.get.ensures.row))

pub returns-then-get : goal.returns-then-get
returns-then-get g c = rw (some_row g.TC.Column.format c.args.index c.requires.sound (rw c.if-get.true at c.get.ensures.row)) (rw c.rank.ensures.value at c.may_set_item.ensures)

pub returns-else-get : goal.returns-else-get
returns-else-get g c = rw (none_row g.TC.Column.format (ranks_content g.CC.Words.bytes g.VC.Words.bytes g.WC.Words.bytes c.args.self.now.indexes) (g.TC.Column.content c.args.self.now.somes) c.args.index (rw c.if-get.false at c.get.ensures.row)) (never (λ h. h))

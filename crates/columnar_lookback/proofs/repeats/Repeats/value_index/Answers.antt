use Rattle.std.proofs.Common.{◌∙◌, arith}
use Rattle.std.proofs.lemmas.List.{length-map}
use Rattle.columnar_base.specs.Row.{truth}
use Rattle.columnar_sums.specs.RankColumns.{ranks_bits, ranks_content}
use Rattle.columnar_lookback.specs.RepeatLaws.{repeats_some, repeats_within, repeats_row, ones_set, ones_clear, ones_left, length-repeats}
use Rattle.columnar_lookback.proofs.repeats.Repeats.value_index.Goals as goal

pub rank_in_turn-before-requires-clause-in_range : goal.rank_in_turn-before-requires-clause-in_range
rank_in_turn-before-requires-clause-in_range g c = omega (arith, c.requires.in_range, length-repeats g.TC.Column.format (ranks_content g.CC.Words.bytes g.VC.Words.bytes g.WC.Words.bytes c.args.self.now.inner.indexes) (g.TC.Column.content c.args.self.now.inner.somes))

pub get-requires-clause-in_range : goal.get-requires-clause-in_range
get-requires-clause-in_range g c = omega (arith, c.requires.in_range, length-repeats g.TC.Column.format (ranks_content g.CC.Words.bytes g.VC.Words.bytes g.WC.Words.bytes c.args.self.now.inner.indexes) (g.TC.Column.content c.args.self.now.inner.somes), length-map (ranks_bits (ranks_content g.CC.Words.bytes g.VC.Words.bytes g.WC.Words.bytes c.args.self.now.inner.indexes)) truth)

pub overflow_sub-result : goal.overflow_sub-result
overflow_sub-result g c = rw (c.rank_in_turn-before.ensures.value, ones_clear (ranks_bits (ranks_content g.CC.Words.bytes g.VC.Words.bytes g.WC.Words.bytes c.args.self.now.inner.indexes)) c.args.index (rw c.if-get.false at c.get.ensures.row)) (repeats_some g.TC.Column.format c.args.index c.requires.sound c.requires.in_range)

pub returns-then-get-clause-within : goal.returns-then-get-clause-within
returns-then-get-clause-within g c = rw c.rank_in_turn-before.ensures.value (repeats_within g.TC.Column.format c.args.index _ c.requires.sound c.requires.in_range (ones_set (ranks_bits (ranks_content g.CC.Words.bytes g.VC.Words.bytes g.WC.Words.bytes c.args.self.now.inner.indexes)) c.args.index (rw c.if-get.true at c.get.ensures.row)))

pub returns-then-get-clause-row : goal.returns-then-get-clause-row
returns-then-get-clause-row g c = rw c.rank_in_turn-before.ensures.value (repeats_row g.TC.Column.format c.args.index _ c.requires.sound c.requires.in_range (ones_set (ranks_bits (ranks_content g.CC.Words.bytes g.VC.Words.bytes g.WC.Words.bytes c.args.self.now.inner.indexes)) c.args.index (rw c.if-get.true at c.get.ensures.row)))

pub returns-else-get-clause-within : goal.returns-else-get-clause-within
returns-else-get-clause-within g c = rw c.rank_in_turn-before.ensures.value (repeats_within g.TC.Column.format c.args.index _ c.requires.sound c.requires.in_range (ones_left (ranks_bits (ranks_content g.CC.Words.bytes g.VC.Words.bytes g.WC.Words.bytes c.args.self.now.inner.indexes)) c.args.index (rw c.if-get.false at c.get.ensures.row) (repeats_some g.TC.Column.format c.args.index c.requires.sound c.requires.in_range)))

pub returns-else-get-clause-row : goal.returns-else-get-clause-row
returns-else-get-clause-row g c = rw c.rank_in_turn-before.ensures.value (repeats_row g.TC.Column.format c.args.index _ c.requires.sound c.requires.in_range (ones_left (ranks_bits (ranks_content g.CC.Words.bytes g.VC.Words.bytes g.WC.Words.bytes c.args.self.now.inner.indexes)) c.args.index (rw c.if-get.false at c.get.ensures.row) (repeats_some g.TC.Column.format c.args.index c.requires.sound c.requires.in_range)))

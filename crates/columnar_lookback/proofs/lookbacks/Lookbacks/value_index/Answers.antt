use Rattle.std.proofs.Common.{◌-◌, ◌∙◌, arith}
use Rattle.std.proofs.lemmas.List.{length-map}
use Rattle.columnar_base.specs.Row.{truth}
use Rattle.columnar_sums.specs.RankColumns.{ranks_bits, ranks_content}
use Rattle.columnar_sums.specs.CountLaws.{ones_le}
use Rattle.columnar_sums.specs.ResultLaws.{results_parts}
use Rattle.columnar_lookback.specs.LookbackLaws.{lookbacks_results, lookbacks_distances, length-lookbacks, distance_within, referred, set_within, set_row}
use Rattle.columnar_lookback.proofs.lookbacks.Lookbacks.value_index.Goals as goal

pub rank_in_turn-before-requires-clause-in_range : goal.rank_in_turn-before-requires-clause-in_range
rank_in_turn-before-requires-clause-in_range g c = omega (arith, c.requires.in_range, length-lookbacks g.TC.Column.format g.VC.Column.format (ranks_content g.CC.Words.bytes g.RC.Words.bytes g.WC.Words.bytes c.args.self.now.inner.indexes) (g.TC.Column.content c.args.self.now.inner.oks) (g.VC.Column.content c.args.self.now.inner.errs))

pub get-requires-clause-sound : goal.get-requires-clause-sound
get-requires-clause-sound g c = (results_parts g.TC.Column.format g.VC.Column.format (lookbacks_results g.TC.Column.format g.VC.Column.format c.requires.sound)).bits

pub get-requires-clause-in_range : goal.get-requires-clause-in_range
get-requires-clause-in_range g c = omega (arith, c.requires.in_range, length-lookbacks g.TC.Column.format g.VC.Column.format (ranks_content g.CC.Words.bytes g.RC.Words.bytes g.WC.Words.bytes c.args.self.now.inner.indexes) (g.TC.Column.content c.args.self.now.inner.oks) (g.VC.Column.content c.args.self.now.inner.errs), length-map (ranks_bits (ranks_content g.CC.Words.bytes g.RC.Words.bytes g.WC.Words.bytes c.args.self.now.inner.indexes)) truth)

pub overflow_sub-index : goal.overflow_sub-index
overflow_sub-index g c = omega (arith, ones_le (ranks_bits (ranks_content g.CC.Words.bytes g.RC.Words.bytes g.WC.Words.bytes c.args.self.now.inner.indexes)) c.args.index, c.rank_in_turn-before.ensures.value)

pub index_as-back-requires-clause-sound : goal.index_as-back-requires-clause-sound
index_as-back-requires-clause-sound g c = lookbacks_distances g.TC.Column.format g.VC.Column.format c.requires.sound

pub index_as-back-requires-clause-in_range : goal.index_as-back-requires-clause-in_range
index_as-back-requires-clause-in_range g c = distance_within g.TC.Column.format g.VC.Column.format c.args.index c.rank_in_turn-before.result c.requires.sound c.requires.in_range (rw c.if-get.false at c.get.ensures.row) c.rank_in_turn-before.ensures.value

pub overflow_sub-result : goal.overflow_sub-result
overflow_sub-result g c = (referred g.TC.Column.format g.VC.Column.format c.args.index c.rank_in_turn-before.result c.index_as-back.result c.requires.sound c.requires.in_range (rw c.if-get.false at c.get.ensures.row) c.rank_in_turn-before.ensures.value c.index_as-back.type_inv c.index_as-back.ensures.row).some_value

pub overflow_sub-result-else-get : goal.overflow_sub-result-else-get
overflow_sub-result-else-get g c = (referred g.TC.Column.format g.VC.Column.format c.args.index c.rank_in_turn-before.result c.index_as-back.result c.requires.sound c.requires.in_range (rw c.if-get.false at c.get.ensures.row) c.rank_in_turn-before.ensures.value c.index_as-back.type_inv c.index_as-back.ensures.row).near

pub returns-then-get-clause-within : goal.returns-then-get-clause-within
returns-then-get-clause-within g c = rw c.rank_in_turn-before.ensures.value (set_within g.TC.Column.format g.VC.Column.format c.args.index c.requires.sound (rw c.if-get.true at c.get.ensures.row))

pub returns-then-get-clause-row : goal.returns-then-get-clause-row
returns-then-get-clause-row g c = rw c.rank_in_turn-before.ensures.value (set_row g.TC.Column.format g.VC.Column.format c.args.index c.requires.sound (rw c.if-get.true at c.get.ensures.row))

pub returns-else-get-clause-within : goal.returns-else-get-clause-within
returns-else-get-clause-within g c = (referred g.TC.Column.format g.VC.Column.format c.args.index c.rank_in_turn-before.result c.index_as-back.result c.requires.sound c.requires.in_range (rw c.if-get.false at c.get.ensures.row) c.rank_in_turn-before.ensures.value c.index_as-back.type_inv c.index_as-back.ensures.row).within

pub returns-else-get-clause-row : goal.returns-else-get-clause-row
returns-else-get-clause-row g c = (referred g.TC.Column.format g.VC.Column.format c.args.index c.rank_in_turn-before.result c.index_as-back.result c.requires.sound c.requires.in_range (rw c.if-get.false at c.get.ensures.row) c.rank_in_turn-before.ensures.value c.index_as-back.type_inv c.index_as-back.ensures.row).row

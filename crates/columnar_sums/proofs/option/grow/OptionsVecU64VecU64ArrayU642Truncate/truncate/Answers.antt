use Rattle.std.proofs.Common.{arith, length}
use Rattle.columnar_sums.specs.OptionLaws.{options_parts, options_within, options_top, options_cut}
use Rattle.columnar_sums.specs.RankColumns.{owned_ranks, ranks_format, ranked_bits, ranks_bits}
use Rattle.std.proofs.lemmas.List.{length-map}
use Rattle.columnar_core.specs.Row.{truth}
use Rattle.columnar_sums.specs.RankColumns.{ranks_bits}
use Rattle.columnar_sums.specs.Rooms.{held_top}
use Rattle.columnar_sums.specs.Options.{somes, options_format}
use Rattle.columnar_sums.specs.Counting.{ones}
use Rattle.columnar_core.specs.RoomLaws.{both_free, counted_frees, through_frees}
use Rattle.columnar_sums.specs.RoomLaws.{count_counted, options_level, somes_rest}
use Rattle.columnar_sums.proofs.option.grow.OptionsVecU64VecU64ArrayU642Truncate.truncate.Goals as goal

pub rank-values-requires-clause-in_range : goal.rank-values-requires-clause-in_range
rank-values-requires-clause-in_range g c = options_within g.TC.Column.format (owned_ranks c.args.self.now.indexes) (g.TC.Column.content c.args.self.now.somes) c.args.n c.requires.in_range

pub truncate-requires-clause-sound : goal.truncate-requires-clause-sound
truncate-requires-clause-sound g c = (options_parts g.TC.Column.format c.requires.sound).values

pub truncate-requires-clause-in_range : goal.truncate-requires-clause-in_range
truncate-requires-clause-in_range g c = rw c.rank-values.ensures.value (options_top g.TC.Column.format (owned_ranks c.args.self.now.indexes) (g.TC.Column.content c.args.self.now.somes) c.args.n c.requires.sound c.requires.in_range)

pub truncate-requires-2-clause-in_range : goal.truncate-requires-2-clause-in_range
truncate-requires-2-clause-in_range g c = omega (arith, length-map (ranks_bits (owned_ranks c.args.self.now.indexes)) truth, options_within g.TC.Column.format (owned_ranks c.args.self.now.indexes) (g.TC.Column.content c.args.self.now.somes) c.args.n c.requires.in_range)

pub returns-clause-cut : goal.returns-clause-cut
returns-clause-cut g c = options_cut g.TC.Column.format c.requires.sound c.truncate-2.ensures.cut (rw c.rank-values.ensures.value at c.truncate.ensures.cut) c.requires.in_range

pub returns-clause-freed : goal.returns-clause-freed
returns-clause-freed g c =
    let m = options_within g.TC.Column.format (owned_ranks c.args.self.now.indexes) (g.TC.Column.content c.args.self.now.somes) c.args.n c.requires.in_range in
    both_free
    (counted_frees (options_format g.TC.Column.format) ranks_format c.args.n (λ s. ((options_parts g.TC.Column.format s).bits, options_level (ranks_bits (owned_ranks c.args.self.now.indexes)) (g.TC.Column.format.rows (g.TC.Column.content c.args.self.now.somes)))) (count_counted (length (ranked_bits c.truncate-2.new.self)) (held_top c.truncate-2.new.self)) c.truncate-2.ensures.freed)
    (through_frees somes (options_format g.TC.Column.format) g.TC.Column.format c.args.n (ones (ranks_bits (owned_ranks c.args.self.now.indexes)) c.args.n) (λ s. let p = options_parts g.TC.Column.format s in (p.values, λ rs. somes_rest (ranks_bits (owned_ranks c.args.self.now.indexes)) (g.TC.Column.format.rows (g.TC.Column.content c.args.self.now.somes)) c.args.n p.level m rs)) (rw c.rank-values.ensures.value at c.truncate.ensures.freed))

use Rattle.std.proofs.Common.{[], refl, length}
use Rattle.columnar_sums.specs.OptionLaws.{options_none, options_parts}
use Rattle.columnar_bits.specs.BoolLaws.{bits_from_rows}
use Rattle.columnar_sums.specs.RankColumns.{ranks_format, owned_ranks, ranked_bits, ranks_bits}
use Rattle.columnar_sums.specs.Rooms.{held_top}
use Rattle.columnar_sums.specs.Options.{somes, options_format}
use Rattle.columnar_core.specs.RoomLaws.{both_free, counted_frees, through_frees}
use Rattle.columnar_sums.specs.RoomLaws.{count_counted, options_level, somes_all}
use Rattle.columnar_sums.proofs.option.grow.OptionsVecU64VecU64ArrayU642Clear.clear.Goals as goal

pub returns-clause-sound : goal.returns-clause-sound
returns-clause-sound g c = options_none g.TC.Column.format c.clear.ensures.sound c.clear-2.ensures.sound c.clear.ensures.rows c.clear-2.ensures.rows

pub returns-clause-rows : goal.returns-clause-rows
returns-clause-rows g c = let b = bits_from_rows _ [] c.clear.ensures.rows in rw b refl

pub returns-clause-freed : goal.returns-clause-freed
returns-clause-freed g c = both_free
    (counted_frees (options_format g.TC.Column.format) ranks_format 0 (λ s. ((options_parts g.TC.Column.format s).bits, options_level (ranks_bits (owned_ranks c.args.self.now.indexes)) (g.TC.Column.format.rows (g.TC.Column.content c.args.self.now.somes)))) (count_counted (length (ranked_bits c.clear.new.self)) (held_top c.clear.new.self)) c.clear.ensures.freed)
    (through_frees somes (options_format g.TC.Column.format) g.TC.Column.format 0 0 (λ s. let p = options_parts g.TC.Column.format s in (p.values, λ rs. somes_all (ranks_bits (owned_ranks c.args.self.now.indexes)) (g.TC.Column.format.rows (g.TC.Column.content c.args.self.now.somes)) p.level rs)) c.clear-2.ensures.freed)

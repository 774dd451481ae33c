use Rattle.columnar_core.specs.WordViews.{view_bytes}
use Rattle.columnar_sums.specs.RankColumns.{ranks_format, ranks_bits, ranks_content}
use Rattle.columnar_sums.specs.Options.{somes, options_format}
use Rattle.columnar_sums.specs.OptionLaws.{options_parts}
use Rattle.columnar_core.specs.RoomLaws.{both_add, counted_adds, through_adds}
use Rattle.columnar_sums.specs.RoomLaws.{up_to_counted, options_level, somes_after}
use Rattle.columnar_sums.proofs.option.grow.OptionsVecU64VecU64ArrayU642ExtendFromOptionsViewU64ViewU64ViewU64.add_room.Goals as goal

pub returns : goal.returns
returns g c = both_add
    (counted_adds (options_format g.V.Column.format) ranks_format (λ s. ((options_parts g.V.Column.format s).bits, options_level (ranks_bits (ranks_content view_bytes view_bytes view_bytes c.args.view.indexes)) (g.V.Column.format.rows (g.V.Column.content c.args.view.somes)))) (up_to_counted c.add_room.result) c.add_room.ensures)
    (through_adds somes (options_format g.V.Column.format) g.V.Column.format (λ s. let p = options_parts g.V.Column.format s in (p.values, λ rs. somes_after (ranks_bits (ranks_content view_bytes view_bytes view_bytes c.args.view.indexes)) (g.V.Column.format.rows (g.V.Column.content c.args.view.somes)) p.level rs)) c.add_room-2.ensures)

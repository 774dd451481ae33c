use Rattle.std.proofs.lemmas.Result.{on_ok_weaker}
use Rattle.columnar_core.specs.WordViews.{view_bytes}
use Rattle.columnar_bits.specs.BoolColumns.{bits_in}
use Rattle.columnar_bits.specs.BoolLaws.{rows_between}
use Rattle.columnar_sums.specs.RankLaws.{ranks_parts}
use Rattle.columnar_sums.specs.RankChangeLaws.{ranks_copied}
use Rattle.columnar_sums.proofs.rank_select.grow.HeldExtendFromViewed.extend_from_self.Goals as goal

pub returns-clause-ok : goal.returns-clause-ok
returns-clause-ok c =
    let bits = bits_in (view_bytes c.args.view.values.values) (view_bytes c.args.view.values.tail) in
    on_ok_weaker c.extend_ranked_tallied.result (λ e. ranks_copied c.args.range.start _ (record { sound = ranks_parts c.extend_ranked_tallied.ensures.sound; bits = e }) (rows_between bits c.args.range.start c.args.range.«end»)) c.extend_ranked_tallied.ensures.ok

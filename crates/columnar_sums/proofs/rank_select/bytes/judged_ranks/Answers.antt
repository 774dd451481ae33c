use Rattle.std.proofs.Common.{arith}
use Rattle.columnar_core.specs.WordViews.{view_bytes}
use Rattle.columnar_core.specs.WordViewLaws.{length-words_in}
use Rattle.columnar_sums.proofs.rank_select.bytes.judged_ranks.Goals as goal

pub returns-then-not-counts_right-clause-turns : goal.returns-then-not-counts_right-clause-turns
returns-then-not-counts_right-clause-turns g c = omega (arith, c.counts_right.ensures.turns, length-words_in (view_bytes c.args.counts), length-words_in (view_bytes c.args.values))

pub returns-clause-turns : goal.returns-clause-turns
returns-clause-turns g c = omega (arith, c.counts_right.ensures.turns, length-words_in (view_bytes c.args.counts), length-words_in (view_bytes c.args.values))

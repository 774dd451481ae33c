use Rattle.std.proofs.Common.{◌∙◌, sym}
use Rattle.columnar_sums.specs.RankLaws.{ranks_parts, counts_reach, counts_exact, ones_bits}
use Rattle.columnar_sums.proofs.rank_select.RankSelect.rank_in_turn_tallied.Goals as goal

pub rank_in_words-requires-clause-within : goal.rank_in_words-requires-clause-within
rank_in_words-requires-clause-within g c = rw c.metered_words.ensures (counts_reach c.args.index (ranks_parts c.requires.ranked) c.requires.in_range).0

pub rank_in_words-requires-clause-counted : goal.rank_in_words-requires-clause-counted
rank_in_words-requires-clause-counted g c = rw c.metered_counts.ensures (counts_reach c.args.index (ranks_parts c.requires.ranked) c.requires.in_range).1

pub rank_in_words-requires-clause-exact : goal.rank_in_words-requires-clause-exact
rank_in_words-requires-clause-exact g c = rw (c.metered_words.ensures, c.metered_counts.ensures) (counts_exact (ranks_parts c.requires.ranked))

pub returns-clause-value : goal.returns-clause-value
returns-clause-value g c = (rw c.metered_words.ensures at c.rank_in_words.ensures.value) ∙ sym (ones_bits _ _ c.args.index c.requires.in_range)

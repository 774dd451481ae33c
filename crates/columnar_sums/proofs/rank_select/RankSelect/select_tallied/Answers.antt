use Rattle.columnar_sums.specs.RankLaws.{ranks_parts, counts_cover, counts_exact, words_few, found_place}
use Rattle.columnar_sums.proofs.rank_select.RankSelect.select_tallied.Goals as goal

pub select_in-requires-clause-short : goal.select_in-requires-clause-short
select_in-requires-clause-short g c = rw c.metered_words.ensures (words_few (ranks_parts c.requires).bools)

pub select_in-requires-clause-enough : goal.select_in-requires-clause-enough
select_in-requires-clause-enough g c = rw (c.metered_counts.ensures, c.metered_words.ensures) (counts_cover (ranks_parts c.requires)).0

pub select_in-requires-clause-counted : goal.select_in-requires-clause-counted
select_in-requires-clause-counted g c = rw (c.metered_counts.ensures, c.metered_words.ensures) (counts_cover (ranks_parts c.requires)).1

pub select_in-requires-clause-exact : goal.select_in-requires-clause-exact
select_in-requires-clause-exact g c = rw (c.metered_words.ensures, c.metered_counts.ensures) (counts_exact (ranks_parts c.requires))

pub returns-clause-value : goal.returns-clause-value
returns-clause-value g c = found_place c.args.rank c.select_in.result (ranks_parts c.requires).bools (rw c.metered_words.ensures at c.select_in.ensures.value)

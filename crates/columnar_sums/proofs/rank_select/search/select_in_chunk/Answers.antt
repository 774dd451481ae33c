use Rattle.columnar_sums.specs.CountLaws.{found_in}
use Rattle.columnar_sums.proofs.rank_select.search.select_in_chunk.Goals as goal

pub returns-clause-before : goal.returns-clause-before
returns-clause-before g c =
    (found_in c.args.words.now c.half_of_words-one.result.low c.read_whole-word.result c.place_in_word.result c.half_of_words-one.result.sum c.args.rank c.read_whole-word.ensures.value c.place_in_word.ensures.within c.place_in_word.ensures.set c.place_in_word.ensures.before c.half_of_words-one.ensures.below c.half_of_words-one.ensures.before).1

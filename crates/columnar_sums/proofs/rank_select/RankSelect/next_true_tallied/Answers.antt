use Rattle.std.proofs.Common.{◌≡◌, ◌/◌, ◌+◌, ◌-◌, ◌<◌, ◌≤◌, ◌∙◌, ap, length, arith, sym}
use Rattle.std.proofs.lemmas.Option.{IfSome_then}
use Rattle.columnar_sums.specs.RankColumns.{bits_ranked}
use Rattle.columnar_sums.specs.RankLaws.{ranks_parts, words_length, last_clear, next_bit, no_bit}
use Rattle.columnar_sums.specs.PlaceLaws.{none_then}
use Rattle.columnar_sums.proofs.rank_select.RankSelect.next_true_tallied.Goals as goal

pub place_at-place-requires : goal.place_at-place-requires
place_at-place-requires g c = rw c.metered_words-words.ensures (omega (arith, words_length (ranks_parts c.requires.ranked).bools, c.requires.in_range))

pub next_in-requires-clause-last : goal.next_in-requires-clause-last
next_in-requires-clause-last g c = rw c.metered_words-words.ensures (last_clear (ranks_parts c.requires.ranked).bools)

pub returns-clause-found : goal.returns-clause-found
returns-clause-found g c =
    let w = rw (c.metered_words-words.ensures, c.place_at-place.ensures.pos) at c.next_in.ensures.found in
    IfSome_then c.next_in.result w (λ q h. next_bit c.args.from q (ranks_parts c.requires.ranked).bools h.0 h.1 h.2 h.3)

pub returns-clause-none : goal.returns-clause-none
returns-clause-none g c =
    let w = rw (c.metered_words-words.ensures, c.place_at-place.ensures.pos) at c.next_in.ensures.none in
    none_then c.next_in.result w (λ h. no_bit c.args.from (ranks_parts c.requires.ranked).bools h.0)

pub returns-clause-loads : goal.returns-clause-loads
returns-clause-loads g c = IfSome_then c.next_in.result c.next_in.ensures.word (λ q h. rw (← c.place_at-place.ensures.words, ← h, ← c.place_at-place.ensures.index) c.next_in.ensures.loads)

pub returns-clause-turns : goal.returns-clause-turns
returns-clause-turns g c = IfSome_then c.next_in.result c.next_in.ensures.word (λ q h. omega (arith, h, c.place_at-place.ensures.index, c.place_at-place.ensures.turns, c.next_in.ensures.turns))

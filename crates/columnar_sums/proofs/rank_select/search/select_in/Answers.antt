use Rattle.std.proofs.Common.{◌≡◌, ℕ, ◌+◌, ◌*◌, ◌<◌, ◌∙◌, ap, sym, length, take, arith}
use Rattle.std.specs.Prelude.{slice_index}
use Rattle.std.proofs.lemmas.List.{take_all}
use Rattle.columnar_bits.specs.Bits.{bit_in}
use Rattle.columnar_sums.specs.Counting.{ones_below}
use Rattle.columnar_sums.specs.CountLaws.{count_before_is, count_before_next, counts_rise, found_in}
use Rattle.columnar_sums.proofs.rank_select.search.select_in.Goals as goal

pub find_chunk-chunk-requires : goal.find_chunk-chunk-requires
find_chunk-chunk-requires g c = record { rising = counts_rise c.args.words.now c.args.counts.now c.requires.exact }

pub select_in_chunk-requires-clause-before : goal.select_in_chunk-requires-clause-before
select_in_chunk-requires-clause-before g c =
    let chunk : ℕ = c.find_chunk-chunk.result.0 in
    c.find_chunk-chunk.ensures.found.before ∙ count_before_is _ _ chunk c.requires.exact (omega arith) ∙ ap (ones_below (bit_in c.args.words.now)) (let e : 1024 * chunk ≡ 64 * (16 * chunk) = omega arith in e)

pub select_in_chunk-requires-clause-above : goal.select_in_chunk-requires-clause-above
select_in_chunk-requires-clause-above g c =
    let chunk : ℕ = c.find_chunk-chunk.result.0 in
    let this : chunk + 0 ≡ chunk = omega arith in
    let inside : chunk < length c.args.counts.now = omega (arith, c.if-chunk-len.true, c.len.ensures.count) in
    let above : c.args.rank < slice_index c.args.counts.now (chunk + 0) = c.find_chunk-chunk.ensures.found.above (omega (arith, inside)) in
    let count = ap (slice_index c.args.counts.now) this ∙ sym (count_before_next c.args.counts.now chunk) ∙ count_before_is c.args.words.now c.args.counts.now (chunk + 1) c.requires.exact (omega (arith, inside)) ∙ ap (ones_below (bit_in c.args.words.now)) (let e : 1024 * (chunk + 1) ≡ 64 * (16 * chunk + 16) = omega arith in e) in
    omega (arith, above, count)

pub loop-at-init : goal.loop-at-init
loop-at-init g c =
    let chunk : ℕ = c.find_chunk-chunk.result.0 in
    record {
      sum = c.find_chunk-chunk.ensures.found.before ∙ count_before_is _ _ chunk c.requires.exact (omega arith) ∙ ap (ones_below (bit_in c.args.words.now)) (let e : 1024 * chunk ≡ 64 * (16 * chunk) = omega arith in e);
      below = omega arith;
      counts = omega arith;
      words = omega (arith, ap length c.find_chunk-chunk.ensures.words);
      turns = omega arith;
      kept = ap (take (length c.args.tally.now.words)) c.find_chunk-chunk.ensures.words ∙ take_all _ _ (omega arith);
    }

pub returns-then-rank-sum-clause-value : goal.returns-then-rank-sum-clause-value
returns-then-rank-sum-clause-value g c =
    let f = found_in c.args.words.now c.loop-at.at c.read-word.result c.place_in_word.result c.loop-at.sum c.args.rank c.read-word.ensures.value c.place_in_word.ensures.within c.place_in_word.ensures.set c.place_in_word.ensures.before c.loop-at.invariant.below c.loop-at.invariant.sum in
    (omega arith, f.0, f.1)

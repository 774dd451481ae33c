use Rattle.std.proofs.Common.{ℕ, ◌-◌, ◌*◌, ◌%◌, ◌^◌, ◌<◌, subst, ap, sym, arith, lit≤, refl, ◌∙◌}
use Rattle.std.proofs.lemmas.Nat.{one_shl}
use Rattle.columnar_bits.specs.Bits.{bit}
use Rattle.columnar_bits.specs.BitLaws.{bit_shr}
use Rattle.columnar_sums.specs.Counting.{ones_below}
use Rattle.columnar_sums.specs.CountLaws.{halves_start, halve_up, Halved}
use Rattle.columnar_sums.proofs.rank_select.search.place_in_word.Goals as goal

pub loop-level-init : goal.loop-level-init
unfolding ones_below
loop-level-init g c = record {
  rest = omega arith;
  left = subst (λ (x : ℕ). c.args.rank < x) (halves_start c.args.word (omega arith)) c.requires;
  before = omega arith;
  high = lit≤ tt;
  level = lit≤ tt;
  within = lit≤ tt;
  turns = refl;
  counts = refl;
  words = refl;
}

pub loop-level-preserved-then-low-left : goal.loop-level-preserved-then-low-left
loop-level-preserved-then-low-left g c =
    let n : ℕ = c.loop-level.level in
    let i = c.loop-level.invariant in
    let s : Halved c.args.word c.loop-level.place c.loop-level.rest c.loop-level.left n (1 * 2 ^ (n - 1) % 2 ^ 64) c.ones_in-low.result c.args.rank =
    halve_up c.args.word c.loop-level.place c.loop-level.rest c.loop-level.left n (1 * 2 ^ (n - 1) % 2 ^ 64) c.ones_in-low.result c.args.rank (omega arith) i.rest i.left i.before (one_shl (n - 1) 64 (omega arith)) c.ones_in-low.ensures c.if-low-left.true i.within in
    record {
      rest = s.rest;
      left = s.left;
      before = s.before;
      high = omega arith;
      level = omega arith;
      within = s.within;
      turns = omega arith;
      counts = omega arith;
      words = c.tick.ensures.words ∙ i.words;
    }

pub returns-clause-set : goal.returns-clause-set
returns-clause-set g c =
    sym (bit_shr c.args.word c.loop-level.place c.place_in_byte.result) ∙ ap (λ (x : ℕ). bit x c.place_in_byte.result) (sym c.loop-level.invariant.rest) ∙ c.place_in_byte.ensures.set

use Rattle.std.proofs.Common.{ℕ, ◌+◌, ◌*◌, ◌≤◌, ◌∙◌, refl, subst, arith, length}
use Rattle.std.specs.Int.{w64, trailing_zeros}
use Rattle.columnar_sums.specs.RankColumns.{AreClear}
use Rattle.columnar_sums.specs.PlaceLaws.{move_on, none_here, lowest, after_found, place_inside, load_more, word_of, IsLowest}
use Rattle.columnar_sums.proofs.rank_select.cursor.next_in.Goals as goal

pub returns-then-place-len-clause-none : goal.returns-then-place-len-clause-none
returns-then-place-len-clause-none g c =
    let i = c.loop-place.invariant in
    (subst (λ (x : ℕ). AreClear c.args.words.now x (64 * length c.args.words.now)) i.pos (none_here c.args.words.now c.loop-place.place.index c.loop-place.place.rest c.loop-place.place.pos i.at (omega arith) (omega arith)), omega arith)

pub loop-place-preserved : goal.loop-place-preserved
loop-place-preserved g c =
    let i = c.loop-place.invariant in
    let w = i.at.within in
    record {
      at = move_on c.args.words.now c.loop-place.place.index c.loop-place.place.rest c.loop-place.place.pos c.read-place.result i.at (omega arith) (omega arith) c.read-place.ensures.value;
      pos = i.pos;
      forward = omega arith;
      loads = load_more c.read-place.new.tally.words c.tick.new.self.words c.args.tally.now.words c.args.place.now.index c.loop-place.place.index (c.tick.ensures.words ∙ i.loads) i.forward c.read-place.ensures.words;
      counts = c.read-place.ensures.counts ∙ c.tick.ensures.counts ∙ i.counts;
      turns = omega arith;
    }

pub overflow_add-place-2 : goal.overflow_add-place-2
overflow_add-place-2 g c =
    let p = c.loop-place.place in
    let e = place_inside c.args.words.now p.index p.rest p.pos (trailing_zeros w64 p.rest) (64 * p.index + trailing_zeros w64 p.rest) c.loop-place.invariant.at (omega arith) (omega arith) refl refl c.requires.short c.requires.last in
    omega arith

pub returns-clause-at : goal.returns-clause-at
returns-clause-at g c =
    let p = c.loop-place.place in
    after_found c.args.words.now p.index p.rest p.pos (trailing_zeros w64 p.rest) (64 * p.index + trailing_zeros w64 p.rest + 1) c.loop-place.invariant.at (omega arith) (omega arith) refl refl

pub returns-clause-found : goal.returns-clause-found
returns-clause-found g c =
    let p = c.loop-place.place in
    let l : IsLowest c.args.words.now p.index p.pos (64 * p.index + trailing_zeros w64 p.rest) = lowest c.args.words.now p.index p.rest p.pos (trailing_zeros w64 p.rest) (64 * p.index + trailing_zeros w64 p.rest) c.loop-place.invariant.at (omega arith) (omega arith) refl refl in
    (l.within, subst (λ (x : ℕ). x ≤ 64 * p.index + trailing_zeros w64 p.rest) c.loop-place.invariant.pos l.from, l.set, subst (λ (x : ℕ). AreClear c.args.words.now x (64 * p.index + trailing_zeros w64 p.rest)) c.loop-place.invariant.pos l.clear, refl)

pub returns-clause-word : goal.returns-clause-word
returns-clause-word g c = word_of c.loop-place.place.index c.loop-place.place.rest (trailing_zeros w64 c.loop-place.place.rest) (omega arith) (omega arith) refl

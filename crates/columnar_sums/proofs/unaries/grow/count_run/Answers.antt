use Rattle.std.proofs.Common.{◌≡◌, ◌+◌, ◌-◌, ◌<◌, ◌^◌, ◌∙◌, ◌∷◌, [], ap, sym, length, take, append-nil, arith}
use Rattle.std.proofs.lemmas.List.{take_all, length_push, take-append-le}
use Rattle.columnar_core.specs.WordViews.{words_in, le_bytes}
use Rattle.columnar_sums.specs.UnaryBitLaws.{counted_more}
use Rattle.columnar_sums.proofs.unaries.grow.count_run.Goals as goal

pub loop-at-init : goal.loop-at-init
loop-at-init c =
    let e : c.len-before.result - c.len-before.result ≡ 0 = omega arith in
    record {
      words = rw e (sym (append-nil (words_in (le_bytes c.args.counts.now.items))));
      many = omega (arith, c.len-before.ensures);
      front = take_all c.len-before.result c.args.counts.now.items (omega (arith, c.len-before.ensures));
      from = omega arith;
      capacity = omega arith;
    }

pub loop-at-preserved : goal.loop-at-preserved
loop-at-preserved c =
    let i = c.loop-at.invariant in
    let e : c.loop-at.at + 1 - c.len-before.result ≡ c.loop-at.at - c.len-before.result + 1 = omega (arith, i.from) in
    let t : c.args.total < 2 ^ 64 = omega arith in
    let m = i.many in
    record {
      words = rw e (counted_more (words_in (le_bytes c.args.counts.now.items)) c.loop-at.counts.items c.push.new.self.items (c.loop-at.at - c.len-before.result) c.args.total i.words c.in-Ok.ensures.items t);
      many = omega (arith, ap length c.in-Ok.ensures.items, length_push c.loop-at.counts.items c.args.total);
      front = ap (take c.len-before.result) c.in-Ok.ensures.items ∙ take-append-le c.len-before.result c.loop-at.counts.items (c.args.total ∷ []) (omega (arith, i.from)) ∙ i.front;
      from = omega (arith, i.from);
      capacity = omega (arith, i.capacity, c.push.ensures.capacity);
    }

pub returns-in-Err-clause-full : goal.returns-in-Err-clause-full
returns-in-Err-clause-full c = omega (arith, c.loop-at.invariant.capacity, c.in-Err.ensures.full, c.loop-at.invariant.many, c.loop-at.counts.ok.0, c.loop-at-test.true)

pub returns-in-Err-clause-capacity : goal.returns-in-Err-clause-capacity
returns-in-Err-clause-capacity c = omega (arith, c.loop-at.invariant.capacity, c.push.ensures.capacity, c.truncate.ensures.capacity)

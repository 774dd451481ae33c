use Rattle.std.proofs.Common.{rules, Some, ◌≡◌, ◌++◌, ◌+◌, ◌-◌, ◌∙◌, arith, ap, drop, length, length-append}
use Rattle.std.proofs.lemmas.List.{length-drop, length-take-le}
use Rattle.columnar_core.specs.Words.{slice_words}
use Rattle.columnar_core.specs.Slices.{bytes_in}
use Rattle.columnar_core.specs.SentLaws.{sent_more, sent_all, sent_length}
use Rattle.columnar_bytes.specs.PlanLaws.{block_rest, words_out}
use Rattle.columnar_bytes.proofs.indexed.encoding.append_each.Goals as goal

pub append_all-requires : goal.append_all-requires
append_all-requires c =
    let s = bytes_in c.args.slice in
    let all = slice_words s in
    let at = c.loop-at.at in
    let ws = c.read_words.new.block in
    let rest : drop at all ≡ ws ++ drop (at + c.min.result) all = block_rest s at c.min.result ws (omega (arith, c.min.ensures, c.loop-at-test.true, c.words_for-count.ensures, c.len.ensures)) (search rules) in
    let sizes = sent_length c.args.store.now.items c.loop-at.store.items (drop at all) all c.loop-at.invariant.sent in
    omega (arith, sizes, ap length rest, length-append ws (drop (at + c.min.result) all), c.loop-at.invariant.capacity, c.requires, c.args.store.now.ok.0, c.loop-at.store.ok.0)

pub loop-at-preserved : goal.loop-at-preserved
loop-at-preserved c =
    let s = bytes_in c.args.slice in
    let all = slice_words s in
    let at = c.loop-at.at in
    let ws = c.read_words.new.block in
    record {
      within = omega (arith, c.min.ensures, c.loop-at-test.true, c.words_for-count.ensures, c.len.ensures);
      long = length-append ws (drop (at + c.min.result - at) c.loop-at.block)
          ∙ omega (arith, length-take-le (at + c.min.result - at) c.loop-at.block (omega (arith, c.loop-at.invariant.long, c.min.ensures)), length-drop (at + c.min.result - at) c.loop-at.block, c.loop-at.invariant.long, c.min.ensures, c.read_words.auto.block);
      sent = sent_more (Some c.args.store.now.items) (Some c.loop-at.store.items) (Some c.append_all.new.store.items) _ ws _ _
          c.loop-at.invariant.sent
          (block_rest s at c.min.result ws (omega (arith, c.min.ensures, c.loop-at-test.true, c.words_for-count.ensures, c.len.ensures)) (search rules))
          c.append_all.ensures.items;
      capacity = omega (arith, c.loop-at.invariant.capacity, c.append_all.ensures.capacity);
    }

pub returns-clause-items : goal.returns-clause-items
returns-clause-items c =
    sent_all (Some c.args.store.now.items) (Some c.loop-at.store.items) _ _ c.loop-at.invariant.sent
    (words_out (bytes_in c.args.slice) c.loop-at.at (omega (arith, c.loop-at-test.false, c.words_for-count.ensures, c.len.ensures)))

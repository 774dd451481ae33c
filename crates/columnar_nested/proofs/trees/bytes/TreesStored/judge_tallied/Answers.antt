use Rattle.std.proofs.Common.{◌≡◌, ◌∙◌, ap, sym, arith, true, ◌+◌}
use Rattle.columnar_base.specs.Faults.{fault_of}
use Rattle.columnar_base.specs.FaultLaws.{fits_from}
use Rattle.columnar_base.specs.ChangeLaws.{passed_on}
use Rattle.columnar_base.specs.WordViews.{words_in, bytes_of}
use Rattle.columnar_core.specs.Store.{slices_in}
use Rattle.columnar_nested.specs.Pass.{accepts}
use Rattle.columnar_nested.specs.JudgeLaws.{values_judged_at, rule_kept_at, turns_both_at}
use Rattle.columnar_nested.proofs.trees.bytes.TreesStored.judge_tallied.Goals as goal

pub returns-in_err-judge_tallied-clause-exact : goal.returns-in_err-judge_tallied-clause-exact
returns-in_err-judge_tallied-clause-exact g c =
    rw (passed_on c.from_residual-in_err-judge_tallied.result c.from_residual-in_err-judge_tallied.ensures.1)
    (values_judged_at g.TC.Column.format (slices_in c.args.store.now) c.args.offset c.get.result.now c.get-2.result.now (fault_of c.in_err-judge_tallied.field-0.0) (record { room = c.requires.room; groups = c.get.ensures; bounds = c.get-2.ensures }) (rw (ap bytes_of c.from_le_bytes-groups.ensures, ap bytes_of c.from_le_bytes-bounds.ensures) at c.in_ok-judged_words.ensures) c.in_err-judge_tallied.ensures.exact)

pub rows_in-nodes-requires-clause-fits : goal.rows_in-nodes-requires-clause-fits
rows_in-nodes-requires-clause-fits g c = fits_from g.TC.Column.format (c.args.offset + 2) (slices_in c.args.store.now) (omega (arith, c.requires.room)) c.in_ok-judge_tallied.ensures.exact

pub returns-then-keep_rule-clause-exact : goal.returns-then-keep_rule-clause-exact
returns-then-keep_rule-clause-exact g c =
    let a : true ≡ accepts (words_in c.get.result.now) (words_in c.get-2.result.now) c.rows_in-nodes.result = rw (ap bytes_of c.from_le_bytes-groups.ensures, ap bytes_of c.from_le_bytes-bounds.ensures) at c.if-keep_rule.ensures.value in
    rule_kept_at g.TC.Column.format (slices_in c.args.store.now) c.args.offset c.get.result.now c.get-2.result.now (record { room = c.requires.room; groups = c.get.ensures; bounds = c.get-2.ensures }) (rw (ap bytes_of c.from_le_bytes-groups.ensures, ap bytes_of c.from_le_bytes-bounds.ensures) at c.in_ok-judged_words.ensures) c.in_ok-judge_tallied.ensures.exact c.rows_in-nodes.ensures (sym a)

pub returns-then-keep_rule-clause-turns : goal.returns-then-keep_rule-clause-turns
returns-then-keep_rule-clause-turns g c =
    turns_both_at g.TC.Column.format (slices_in c.args.store.now) c.args.offset c.get.result.now c.get-2.result.now c.args.tally.now.turns c.judge_tallied.new.tally.turns c.keep_rule.new.tally.turns (record { room = c.requires.room; groups = c.get.ensures; bounds = c.get-2.ensures }) g.met.TC.Stored.storable c.judge_tallied.ensures.turns (rw (ap bytes_of c.from_le_bytes-bounds.ensures) at c.keep_rule.ensures.turns)

pub returns-else-keep_rule-clause-turns : goal.returns-else-keep_rule-clause-turns
returns-else-keep_rule-clause-turns g c =
    turns_both_at g.TC.Column.format (slices_in c.args.store.now) c.args.offset c.get.result.now c.get-2.result.now c.args.tally.now.turns c.judge_tallied.new.tally.turns c.keep_rule.new.tally.turns (record { room = c.requires.room; groups = c.get.ensures; bounds = c.get-2.ensures }) g.met.TC.Stored.storable c.judge_tallied.ensures.turns (rw (ap bytes_of c.from_le_bytes-bounds.ensures) at c.keep_rule.ensures.turns)

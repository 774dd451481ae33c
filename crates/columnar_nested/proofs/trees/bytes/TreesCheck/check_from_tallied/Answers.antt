use Rattle.std.proofs.Common.{◌≡◌, ◌∙◌, ap, sym, true, ◌+◌}
use Rattle.columnar_base.specs.Format.{slice}
use Rattle.columnar_base.specs.Faults.{fault_of}
use Rattle.columnar_base.specs.FaultLaws.{sound_from}
use Rattle.columnar_base.specs.ChangeLaws.{passed_on}
use Rattle.columnar_base.specs.WordViews.{words_in}
use Rattle.columnar_nested.specs.Pass.{accepts}
use Rattle.columnar_nested.specs.JudgeLaws.{values_judged, rule_kept, turns_both}
use Rattle.columnar_nested.proofs.trees.bytes.TreesCheck.check_from_tallied.Goals as goal

pub returns-in_err-check_from_tallied-clause-exact : goal.returns-in_err-check_from_tallied-clause-exact
returns-in_err-check_from_tallied-clause-exact g c =
    rw (passed_on c.from_residual-in_err-check_from_tallied.result c.from_residual-in_err-check_from_tallied.ensures.1)
    (values_judged g.TC.Column.format (slice (g.BC.NodeBounds.bytes c.args.self.now.groups)) (slice (g.BC.NodeBounds.bytes c.args.self.now.bounds)) (g.TC.Column.content c.args.self.now.values) c.args.from (fault_of c.in_err-check_from_tallied.field-0.0) (rw (c.words-groups.ensures, c.words-bounds.ensures) at c.in_ok-judged_words.ensures) c.in_err-check_from_tallied.ensures.exact)

pub len-nodes-requires : goal.len-nodes-requires
len-nodes-requires g c = sound_from g.TC.Column.format (g.TC.Column.content c.args.self.now.values) (c.args.from + 2) c.in_ok-check_from_tallied.ensures.exact

pub returns-then-keep_rule-clause-exact : goal.returns-then-keep_rule-clause-exact
returns-then-keep_rule-clause-exact g c =
    let a : true ≡ accepts (words_in (g.BC.NodeBounds.bytes c.args.self.now.groups)) (words_in (g.BC.NodeBounds.bytes c.args.self.now.bounds)) c.len-nodes.result = rw (c.words-groups.ensures, c.words-bounds.ensures) at c.if-keep_rule.ensures.value in
    rule_kept g.TC.Column.format (slice (g.BC.NodeBounds.bytes c.args.self.now.groups)) (slice (g.BC.NodeBounds.bytes c.args.self.now.bounds)) (g.TC.Column.content c.args.self.now.values) c.args.from (rw (c.words-groups.ensures, c.words-bounds.ensures) at c.in_ok-judged_words.ensures) c.in_ok-check_from_tallied.ensures.exact
    (ap (accepts (words_in (g.BC.NodeBounds.bytes c.args.self.now.groups)) (words_in (g.BC.NodeBounds.bytes c.args.self.now.bounds))) (sym c.len-nodes.ensures) ∙ sym a)

pub returns-then-keep_rule-clause-turns : goal.returns-then-keep_rule-clause-turns
returns-then-keep_rule-clause-turns g c =
    turns_both g.TC.Column.format (g.BC.NodeBounds.bytes c.args.self.now.groups) (g.BC.NodeBounds.bytes c.args.self.now.bounds) (g.TC.Column.content c.args.self.now.values) c.args.tally.now.turns c.check_from_tallied.new.tally.turns c.keep_rule.new.tally.turns g.met.TC.Stored.storable c.check_from_tallied.ensures.turns (rw c.words-bounds.ensures at c.keep_rule.ensures.turns)

pub returns-else-keep_rule-clause-turns : goal.returns-else-keep_rule-clause-turns
returns-else-keep_rule-clause-turns g c =
    turns_both g.TC.Column.format (g.BC.NodeBounds.bytes c.args.self.now.groups) (g.BC.NodeBounds.bytes c.args.self.now.bounds) (g.TC.Column.content c.args.self.now.values) c.args.tally.now.turns c.check_from_tallied.new.tally.turns c.keep_rule.new.tally.turns g.met.TC.Stored.storable c.check_from_tallied.ensures.turns (rw c.words-bounds.ensures at c.keep_rule.ensures.turns)

use Rattle.std.proofs.Common.{◌∙◌, arith}
use Rattle.columnar_base.specs.ChangeLaws.{slice_get_some}
use Rattle.columnar_sums.specs.Counting.{ones}
use Rattle.columnar_sums.specs.Options.{weave}
use Rattle.columnar_sums.specs.OptionLaws.{options_parts, options_bit, options_within, options_value, options_some, options_absent}
use Rattle.columnar_sums.specs.RankColumns.{ranks_bits, ranks_content}
use Rattle.columnar_lookback.specs.SameLaws.{some_at, none_at, none_is}
use Rattle.columnar_lookback.proofs.same.OptionsSameAsOption.same.Goals as goal

pub get-requires-clause-in_range : goal.get-requires-clause-in_range
get-requires-clause-in_range g c = options_bit g.TC.Column.format (ranks_content g.CC.Words.bytes g.VC.Words.bytes g.WC.Words.bytes c.args.self.now.indexes) (g.TC.Column.content c.args.self.now.somes) c.args.at c.requires.in_range

pub get-requires-in-None-clause-in_range : goal.get-requires-in-None-clause-in_range
get-requires-in-None-clause-in_range g c = options_bit g.TC.Column.format (ranks_content g.CC.Words.bytes g.VC.Words.bytes g.WC.Words.bytes c.args.self.now.indexes) (g.TC.Column.content c.args.self.now.somes) c.args.at c.requires.in_range

pub rank-requires-clause-in_range : goal.rank-requires-clause-in_range
rank-requires-clause-in_range g c = options_within g.TC.Column.format (ranks_content g.CC.Words.bytes g.VC.Words.bytes g.WC.Words.bytes c.args.self.now.indexes) (g.TC.Column.content c.args.self.now.somes) c.args.at (let l = c.requires.in_range in omega arith)

pub same-requires-clause-sound : goal.same-requires-clause-sound
same-requires-clause-sound g c = (options_parts g.TC.Column.format c.requires.sound).values

pub same-requires-clause-in_range : goal.same-requires-clause-in_range
same-requires-clause-in_range g c = rw c.rank.ensures.value (options_value g.TC.Column.format c.args.at c.requires.sound (rw c.if-get.true at c.get.ensures.row))

pub returns-then-get : goal.returns-then-get
returns-then-get g c =
    let bit = rw c.if-get.true at c.get.ensures.row in
    let v = slice_get_some (g.TC.Column.format.rows (g.TC.Column.content c.args.self.now.somes)) (ones (ranks_bits (ranks_content g.CC.Words.bytes g.VC.Words.bytes g.WC.Words.bytes c.args.self.now.indexes)) c.args.at) (options_value g.TC.Column.format c.args.at c.requires.sound bit) in
    λ r h. rw c.in-Some.is ((rw c.rank.ensures.value at c.same.ensures) v.0 v.1 ∙ some_at g.TC.Column.format.kin (weave (ranks_bits (ranks_content g.CC.Words.bytes g.VC.Words.bytes g.WC.Words.bytes c.args.self.now.indexes)) (g.TC.Column.format.rows (g.TC.Column.content c.args.self.now.somes))) c.args.at v.0 (g.T.Item.meaning c.in-Some.value) r (options_some g.TC.Column.format (ranks_content g.CC.Words.bytes g.VC.Words.bytes g.WC.Words.bytes c.args.self.now.indexes) (g.TC.Column.content c.args.self.now.somes) c.args.at v.0 bit v.1) h)

pub returns-else-get : goal.returns-else-get
returns-else-get g c = λ r h. rw c.in-Some.is (c.if-get.false ∙ none_at g.TC.Column.format.kin (weave (ranks_bits (ranks_content g.CC.Words.bytes g.VC.Words.bytes g.WC.Words.bytes c.args.self.now.indexes)) (g.TC.Column.format.rows (g.TC.Column.content c.args.self.now.somes))) c.args.at (g.T.Item.meaning c.in-Some.value) r (options_absent g.TC.Column.format (ranks_content g.CC.Words.bytes g.VC.Words.bytes g.WC.Words.bytes c.args.self.now.indexes) (g.TC.Column.content c.args.self.now.somes) c.args.at (rw c.if-get.false at c.get.ensures.row)) h)

pub returns-in-None : goal.returns-in-None
returns-in-None g c = λ r h. rw c.in-None.is (none_is g.TC.Column.format c.args.at c.get-in-None.result r g.met.TC.Truncate.lawful.kindred c.requires.sound c.get-in-None.ensures.row h)

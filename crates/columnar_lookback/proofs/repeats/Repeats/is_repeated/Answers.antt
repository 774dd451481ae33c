use Rattle.std.proofs.Common.{◌≡◌, ◌-◌, sym, ◌∙◌, arith}
use Rattle.columnar_base.specs.ChangeLaws.{slice_get_some}
use Rattle.columnar_lookback.specs.RepeatLaws.{repeats_values, repeats_last, repeats_last_none}
use Rattle.columnar_lookback.proofs.repeats.Repeats.is_repeated.Goals as goal

pub len-values-requires : goal.len-values-requires
len-values-requires g c = repeats_values g.TC.Column.format c.requires.sound

pub same-requires-clause-sound : goal.same-requires-clause-sound
same-requires-clause-sound g c = repeats_values g.TC.Column.format c.requires.sound

pub returns-then-values-gt0 : goal.returns-then-values-gt0
returns-then-values-gt0 g c =
    let vs = g.TC.Column.format.rows (g.TC.Column.content c.args.self.now.inner.somes) in
    let i = c.len-values.result - 1 in
    let v = slice_get_some vs i (omega (arith, c.len-values.ensures, c.if-values-gt0.true)) in
    c.same.ensures v.0 v.1 ∙ repeats_last g.TC.Column.format i v.0 (g.T.Item.meaning c.args.item.now) c.requires.sound (omega (arith, c.len-values.ensures, c.if-values-gt0.true)) v.1

pub returns-else-values-gt0 : goal.returns-else-values-gt0
returns-else-values-gt0 g c =
    let z : c.len-values.result ≡ 0 = omega (arith, c.if-values-gt0.false) in
    rw z (repeats_last_none g.TC.Column.format (g.T.Item.meaning c.args.item.now) c.requires.sound (sym c.len-values.ensures ∙ z))

use Rattle.std.proofs.Common.{◌≡◌, rules, string_bytes, true}
use Rattle.std.specs.Prelude.{codes}
use Rattle.columnar_tool.specs.Flags.{reads}
use Rattle.columnar_tool.specs.UseLaws.{make_three, slices_three}
use Rattle.columnar_tool.proofs.cli.three_words.Goals as goal

pub returns-then-eq-2 : goal.returns-then-eq-2
returns-then-eq-2 g c =
    let h : reads c.args.verb.now (codes "slices") ≡ true = search rules in
    let k : reads c.args.flag.now (codes "--rust") ≡ true = search rules in
    slices_three c.args.verb.now c.args.flag.now c.args.word.now c.as_str-then-eq-2.result.now (g.I.Read.remaining c.args.input.now) c.list_slices.result (g.O.Write.contents c.args.out.now) (g.O.Write.contents c.list_slices.new.out) h k c.as_str-then-eq-2.ensures.value c.list_slices.ensures

pub returns-then-eq-4 : goal.returns-then-eq-4
returns-then-eq-4 g c =
    let h : string_bytes c.args.verb.now ≡ codes "make" = search rules in
    let k : reads c.args.flag.now (codes "--rust") ≡ true = search rules in
    make_three c.args.verb.now c.args.flag.now c.args.word.now c.as_str-then-eq-4.result.now (g.I.Read.remaining c.args.input.now) c.make_of_text.result (g.O.Write.contents c.args.out.now) (g.O.Write.contents c.make_of_text.new.out) h k c.as_str-then-eq-4.ensures.value c.make_of_text.ensures
